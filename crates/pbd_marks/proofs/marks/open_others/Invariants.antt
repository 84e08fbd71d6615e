use Rattle.pbd_world.specs.World.{opened}
use Rattle.pbd_marks.specs.Keeping.{AreOpened, worlds_in}
use Rattle.pbd_marks.proofs.marks.open_others.Given as goal

-- so many solvers are opened
abbrev pub invariant-loop : goal.invariant-loop
invariant-loop g l = AreOpened (opened l.scene) l.counter (worlds_in l.solvers.items)
