use Rattle.std.proofs.Common.{◌∙◌, sym, ap, arith, subst}
use Rattle.pbd_world.specs.World.{World, AreOfOneScene}
use Rattle.pbd_step.specs.Solving.{Solved, IsSnapshot}
use Rattle.pbd_step.proofs.solver.Solver.copy_from.Goals as goal

pub take_world-requires : goal.take_world-requires
take_world-requires g c =
    let other = c.other.invariant in
    let saved : IsSnapshot c.other.inside.setting c.other.inside.run.state c.other.inside.run.colours =
    record { sound = other.sound; weights = other.weights; links = other.links } in
    let scene = subst (λ (v : World). AreOfOneScene c.args.self.now.world v)
    (sym (ap (λ (s : Solved g.row.P.Denot). s.world) c.other.view_is)) c.requires.one_scene in
    (omega arith, (omega arith, (c.requires.lanes_low, (c.requires.lanes_high, (saved, scene)))))

pub returns-clause-world : goal.returns-clause-world
returns-clause-world g c = c.take_world.ensures.world ∙ ap (λ (s : Solved g.row.P.Denot). s.world) c.other.view_is
