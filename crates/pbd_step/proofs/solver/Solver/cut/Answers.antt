use Rattle.std.proofs.Common.{refl, ◌+◌, ap, sym, ◌∙◌, arith, subst, false}
use Rattle.pbd_step.specs.declared.state.State.{State}
use Rattle.pbd_step.specs.States.{world_of, AreWeights}
use Rattle.pbd_step.specs.Solving.{Solved}
use Rattle.pbd_world.specs.declared.command.Command.TheVariants.{Cut}
use Rattle.pbd_step.proofs.Keeping.{commanded, seen_obeyed, kept_commanded, none_laid, formed_fit}
use Rattle.pbd_step.proofs.solver.Solver.cut.Goals as goal

pub cut-requires : goal.cut-requires
cut-requires g c = (
  omega arith,
  (
    c.requires.lanes_high,
    (
      (formed_fit (world_of c.self.inside.setting c.self.inside.run.state) c.self.invariant.sound.well_formed).links,
      c.self.invariant.links,
    ),
  ),
)

pub invariant_of-self : goal.invariant_of-self
invariant_of-self g c =
    kept_commanded c.self.invariant (commanded (Cut c.args.l) (c.cut.ensures.obeys c.self.inside.setting) c.self.invariant.sound)
    (subst (λ (s : State g.row.L). AreWeights s) (sym c.cut.ensures.same) c.self.invariant.weights) c.cut.ensures.links
    false none_laid

pub returns-clause-commanded : goal.returns-clause-commanded
returns-clause-commanded g c =
    seen_obeyed (Cut c.args.l) (c.cut.ensures.obeys c.self.inside.setting) c.self.invariant.sound c.self.view_is refl

pub returns-clause-copies : goal.returns-clause-copies
returns-clause-copies g c =
    ap (λ (s : State g.row.L). s.store.copies + c.self.inside.kept.store.copies) c.cut.ensures.same
    ∙ ap (λ (s : Solved g.row.P.Denot). s.copies) c.self.view_is
