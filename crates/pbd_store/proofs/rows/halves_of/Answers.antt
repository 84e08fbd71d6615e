use Rattle.std.proofs.Common.{◌∙◌, sym, w32, FitsSigned}
use Rattle.std.proofs.lemmas.Int.{to_z-of_z}
use Rattle.pbd_store.specs.InRows.{axis_of}
use Rattle.pbd_store.proofs.InRows.{halves_above, halves_below}
use Rattle.pbd_store.proofs.rows.halves_of.Goals as goal

pub returns-then-axis-lt0 : goal.returns-then-axis-lt0
returns-then-axis-lt0 c =
    let axis = c.ranges.axis in
    let low : FitsSigned w32 c.low_below.result = record { sfits = c.low_below.type_inv } in
    let value = simp to_z-of_z at c.below-n.ensures.value in
    simp to_z-of_z ((λ t. axis_of (c.low_below.ensures t) (c.high_of.ensures t)) ∙ halves_below c.below-n.result ∙ sym value)

pub returns-else-axis-lt0 : goal.returns-else-axis-lt0
returns-else-axis-lt0 c =
    let axis = c.ranges.axis in
    let low : FitsSigned w32 c.low_of.result = record { sfits = c.low_of.type_inv } in
    let value = simp to_z-of_z at c.above-n.ensures.value in
    simp to_z-of_z ((λ t. axis_of (c.low_of.ensures t) (c.high_of-else-axis-lt0.ensures t)) ∙ halves_above c.above-n.result ∙ sym value)
