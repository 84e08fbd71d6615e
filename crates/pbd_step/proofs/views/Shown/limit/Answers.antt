use Rattle.std.proofs.Common.{FitsSigned, w64, ap, ◌∙◌}
use Rattle.std.proofs.lemmas.Int.{to_z-of_z}
use Rattle.pbd_world.specs.World.{World}
use Rattle.pbd_step.proofs.views.Shown.limit.Goals as goal

pub returns-clause-value : goal.returns-clause-value
returns-clause-value g c =
    let f : FitsSigned w64 c.limit.result = record { sfits = c.limit.type_inv } in
    simp to_z-of_z (c.limit.ensures.value ∙ ap (λ (w : World). w.limit) c.self.view_is)
