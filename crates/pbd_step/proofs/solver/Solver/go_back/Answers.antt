use Rattle.std.proofs.Common.{◌∙◌, sym, arith, subst}
use Rattle.pbd_world.specs.World.{World, AreOfOneScene}
use Rattle.pbd_step.proofs.solver.Solver.go_back.Goals as goal

pub take_world-requires : goal.take_world-requires
take_world-requires g c =
    let scene = subst (λ (v : World). AreOfOneScene c.args.self.now.world v) (sym c.saved.view_is) c.requires.one_scene in
    (omega arith, (omega arith, (c.requires.lanes_low, (c.requires.lanes_high, (c.saved.invariant, scene)))))

pub returns-clause-world : goal.returns-clause-world
returns-clause-world g c = c.take_world.ensures.world ∙ c.saved.view_is
