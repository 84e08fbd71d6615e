use Rattle.std.proofs.Common.{refl, sym, ap, ◌∙◌, arith, subst}
use Rattle.std.specs.Prelude.{IsTrue}
use Rattle.pbd_world.specs.declared.parts.Parts.{Parts}
use Rattle.pbd_world.specs.Valid.{is_valid}
use Rattle.pbd_world.specs.World.{opened}
use Rattle.pbd_step.proofs.Keeping.{opened_world, opened_kept}
use Rattle.pbd_step.proofs.solver.Solver.open.Goals as goal

pub invariant_of-result : goal.invariant_of-result
invariant_of-result g c =
    let run = c.in_ok-run.run' in
    let opened = c.in_ok-run.ensures in
    opened_kept c.parts-parts.result.now c.in-Ok.setting run.state c.in-Ok.kept run.colours run.scratch _ _
    (subst (λ (p : Parts). IsTrue (is_valid p)) (sym c.parts-parts.ensures.parts) c.parts-parts.ensures.valid)
    c.in-Ok.ensures.setting opened.state c.in-Ok.ensures.state refl refl opened.links opened.space opened.unused

pub returns-in-Ok-clause-world : goal.returns-in-Ok-clause-world
returns-in-Ok-clause-world g c =
    opened_world c.parts-parts.result.now c.in-Ok.setting c.in_ok-run.run'.state c.in-Ok.ensures.setting c.in_ok-run.ensures.state
    ∙ ap (λ (p : Parts). opened p) c.parts-parts.ensures.parts

pub returns-in-Ok-clause-sound : goal.returns-in-Ok-clause-sound
returns-in-Ok-clause-sound g c = (invariant_of-result g c).sound

pub returns-in-Ok-clause-copies : goal.returns-in-Ok-clause-copies
returns-in-Ok-clause-copies g c = omega (arith, c.in_ok-run.ensures.state.copies, c.in-Ok.ensures.state.copies)
