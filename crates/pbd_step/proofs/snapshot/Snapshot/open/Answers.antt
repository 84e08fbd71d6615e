use Rattle.std.proofs.Common.{sym, ap, ◌∙◌, subst, length}
use Rattle.std.specs.Prelude.{IsTrue}
use Rattle.pbd_world.specs.declared.parts.Parts.{Parts}
use Rattle.pbd_world.specs.Valid.{is_valid}
use Rattle.pbd_world.specs.World.{World, IsSound, opened}
use Rattle.pbd_world.proofs.OpenedLemmas.{opened-is_sound}
use Rattle.pbd_step.specs.States.{HasLinks}
use Rattle.pbd_step.proofs.Keeping.{opened_world}
use Rattle.pbd_step.proofs.snapshot.Snapshot.open.Goals as goal

pub invariant_of-result : goal.invariant_of-result
invariant_of-result g c =
    let parts = c.parts-parts.result.now in
    let valid = subst (λ (p : Parts). IsTrue (is_valid p)) (sym c.parts-parts.ensures.parts) c.parts-parts.ensures.valid in
    record {
      sound = subst (λ (w : World). IsSound w) (sym (opened_world parts c.in-Ok.setting c.in-Ok.state c.in-Ok.ensures.setting
          c.in-Ok.ensures.state))
          (opened-is_sound parts valid);
      weights = c.in-Ok.ensures.state.weights;
      links = coe 0 1 (i. HasLinks (length (sym c.in-Ok.ensures.state.particles i)) (sym c.in-Ok.ensures.state.links i) c.in_ok-colours.colours)
          c.in_ok-colours.ensures;
    }

pub returns-in-Ok-clause-world : goal.returns-in-Ok-clause-world
returns-in-Ok-clause-world g c =
    opened_world c.parts-parts.result.now c.in-Ok.setting c.in-Ok.state c.in-Ok.ensures.setting c.in-Ok.ensures.state
    ∙ ap (λ (p : Parts). opened p) c.parts-parts.ensures.parts

pub returns-in-Ok-clause-sound : goal.returns-in-Ok-clause-sound
returns-in-Ok-clause-sound g c = (invariant_of-result g c).sound

pub open_colours-requires : goal.open_colours-requires
open_colours-requires g c = subst (λ (p : Parts). IsTrue (is_valid p)) (sym c.parts-parts.ensures.parts) c.parts-parts.ensures.valid
