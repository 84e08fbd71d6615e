use Rattle.std.proofs.Common.{refl, ap, arith, false}
use Rattle.pbd_step.specs.Solving.{Solved}
use Rattle.pbd_step.specs.declared.state.State.{State}
use Rattle.pbd_world.specs.declared.command.Command.TheVariants.{Unpin}
use Rattle.pbd_step.proofs.Keeping.{seen_obeyed, kept_linked, none_laid}
use Rattle.pbd_step.proofs.solver.Solver.unpin.Goals as goal

pub invariant_of-self : goal.invariant_of-self
invariant_of-self g c = kept_linked (Unpin c.args.i) c.self.invariant c.unpin.ensures.obeys c.unpin.ensures.weights
    (ap (λ (s : State g.row.L). s.links.items) c.unpin.ensures.same) false none_laid

pub returns-clause-commanded : goal.returns-clause-commanded
returns-clause-commanded g c =
    seen_obeyed (Unpin c.args.i) c.unpin.ensures.obeys c.self.invariant.sound c.self.view_is refl

pub returns-clause-copies : goal.returns-clause-copies
returns-clause-copies g c = omega (arith, c.unpin.ensures.copies, ap (λ (s : Solved g.row.P.Denot). s.copies) c.self.view_is)
