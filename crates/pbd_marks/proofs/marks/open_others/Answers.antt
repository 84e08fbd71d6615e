use Rattle.pbd_world.specs.World.{opened}
use Rattle.pbd_marks.proofs.KeepingLemmas.{one_more}
use Rattle.pbd_marks.proofs.marks.open_others.Goals as goal

pub loop-preserved : goal.loop-preserved
loop-preserved g c = rw c.in_ok-push.ensures.items (one_more
    (opened c.args.scene.now) c.loop.counter c.loop.solvers.items c.in_ok-solver.solver c.loop.invariant c.in_ok-solver.ensures.world)
