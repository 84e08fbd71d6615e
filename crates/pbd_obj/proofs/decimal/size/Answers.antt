use Rattle.std.proofs.Common.{◌∙◌, ◌≡◌, ◌*◌, ◌^◌, arith, min, ap, pos, ◌<ℤ◌, ◌≤ℤ◌, unsigned_abs}
use Rattle.std.proofs.lemmas.Int.{ints, to_z-of_z}
use Rattle.pbd_obj.specs.Sizes.{capped_size, lowered}
use Rattle.pbd_obj.proofs.Numbers.{size_high, size_low}
use Rattle.pbd_obj.proofs.decimal.size.Goals as goal
use Rattle.pbd_obj.proofs.decimal.size.Goals.{then-power-lt0, else-power-lt0}

pub returns-clause-value : goal.returns-clause-value
returns-clause-value c =
    let fit = c.ranges.power in
    let units = c.args.digits * 65536 in
    let places = simp to_z-of_z at c.unsigned_abs-places.ensures.value in
    elim c.if-power-lt0.branch [
      | then-power-lt0 w ↦ (
          let low : c.args.power <ℤ pos 0 = grind (arith, ints) in
          let is : c.if-power-lt0.size ≡ lowered units (min (unsigned_abs c.args.power) 30) = w.size-is
          ∙ (w.lowered-size.ensures ∙ ap (lowered units) (w.min.ensures ∙ ap (λ k. min k 30) places)) in
          c.min-2.ensures ∙ ap capped_size (size_low c.args.digits c.args.power c.if-power-lt0.size c.requires.digits low is))
      | else-power-lt0 w ↦ (
          let high : pos 0 ≤ℤ c.args.power = grind (arith, ints) in
          let is : c.if-power-lt0.size ≡ units * 10 ^ min (unsigned_abs c.args.power) 4 = w.size-is
          ∙ (w.raised-size.ensures ∙ ap (λ k. units * 10 ^ k) (w.min-else-power-lt0.ensures ∙ ap (λ k. min k 4) places)) in
          c.min-2.ensures ∙ size_high c.args.digits c.args.power c.if-power-lt0.size high is)
    ]
