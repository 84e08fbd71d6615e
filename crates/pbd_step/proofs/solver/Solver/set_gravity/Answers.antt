use Rattle.std.proofs.Common.{refl, ap}
use Rattle.pbd_step.specs.Solving.{Solved}
use Rattle.pbd_world.specs.declared.command.Command.TheVariants.{Gravity}
use Rattle.pbd_step.proofs.Keeping.{commanded, seen_obeyed, kept_commanded}
use Rattle.pbd_step.proofs.solver.Solver.set_gravity.Goals as goal

pub invariant_of-self : goal.invariant_of-self
invariant_of-self g c =
    kept_commanded c.self.invariant
    (commanded (Gravity c.args.g) c.set_gravity.ensures.obeys c.self.invariant.sound) c.self.invariant.weights c.self.invariant.links
    c.self.inside.run.scratch.are_links_laid c.self.invariant.knows.laid

pub returns-clause-commanded : goal.returns-clause-commanded
returns-clause-commanded g c =
    seen_obeyed (Gravity c.args.g) c.set_gravity.ensures.obeys c.self.invariant.sound c.self.view_is refl

pub returns-clause-copies : goal.returns-clause-copies
returns-clause-copies g c = ap (λ (s : Solved g.row.P.Denot). s.copies) c.self.view_is
