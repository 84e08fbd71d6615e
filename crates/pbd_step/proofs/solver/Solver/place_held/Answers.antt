use Rattle.std.proofs.Common.{refl, ap, sym, arith, IsTrue}
use Rattle.pbd_step.specs.States.{AreLinksLaid}
use Rattle.pbd_step.specs.Solving.{Solved}
use Rattle.pbd_step.specs.declared.state.State.{State}
use Rattle.pbd_world.specs.declared.command.Command.TheVariants.{Move}
use Rattle.pbd_step.proofs.Keeping.{seen_obeyed, kept_linked}
use Rattle.pbd_step.proofs.solver.Solver.place_held.Goals as goal

pub invariant_of-self : goal.invariant_of-self
invariant_of-self g c =
    let scratch = c.self.inside.run.scratch in
    kept_linked (Move c.args.i c.args.to) c.self.invariant c.place_held.ensures.obeys
    c.place_held.ensures.weights (ap (λ (s : State g.row.L). s.links.items) c.place_held.ensures.same)
    scratch.are_links_laid (coe 0 1 (i. IsTrue scratch.are_links_laid → AreLinksLaid (sym c.place_held.ensures.same i) scratch.laid_links)
    c.self.invariant.knows.laid)

pub returns-clause-commanded : goal.returns-clause-commanded
returns-clause-commanded g c =
    seen_obeyed (Move c.args.i c.args.to) c.place_held.ensures.obeys c.self.invariant.sound c.self.view_is refl

pub returns-clause-copies : goal.returns-clause-copies
returns-clause-copies g c = omega (arith, c.place_held.ensures.copies, ap (λ (s : Solved g.row.P.Denot). s.copies) c.self.view_is)
