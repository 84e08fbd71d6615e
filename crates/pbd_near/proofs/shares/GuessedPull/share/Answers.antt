use Rattle.std.proofs.Common.{arith, ap, pos, ◌∙◌, ◌*ℤ◌, unsigned_abs, w32, FitsSigned}
use Rattle.std.proofs.lemmas.Int.{to_z-of_z, fits_signed_from_abs}
use Rattle.std.proofs.Math.IntN.{*ℤ_comm}
use Rattle.pbd_num.specs.Rounding.{rdiv}
use Rattle.pbd_num.proofs.Sizes.{size_at_most}
use Rattle.pbd_near.proofs.shares.GuessedPull.share.Goals as goal

pub returns : goal.returns
returns c =
    let axis = c.ranges.axis in
    let error = fits_signed_from_abs w32 c.args.self.error (omega (arith, c.requires.error)) in
    let length = fits_signed_from_abs w32 c.args.self.length
    (omega (arith, size_at_most c.args.self.length 32767 c.requires.low c.requires.high)) in
    let factor = fits_signed_from_abs w32 c.args.self.factor (omega (arith, c.requires.factor)) in
    let n : FitsSigned w32 c.product-n.result = record { sfits = c.product-n.type_inv } in
    let quotient = fits_signed_from_abs w32 c.test_of-tested.result.quotient (omega (arith, c.test_of-tested.ensures.size)) in
    let share : FitsSigned w32 c.share_of.result = record { sfits = c.share_of.type_inv } in
    let part : FitsSigned w32 c.part_of_512.result = record { sfits = c.part_of_512.type_inv } in
    let n_is = simp to_z-of_z at c.product-n.ensures.value in
    let q_is = simp to_z-of_z at c.test_of-tested.ensures.value in
    let s_is = simp to_z-of_z at c.share_of.ensures.value in
    let p_is = simp to_z-of_z at c.part_of_512.ensures.value in
    let turned = n_is ∙ *ℤ_comm c.args.axis c.args.self.error in
    record {
      some = simp to_z-of_z at c.test_of-tested.ensures.some;
      size = simp to_z-of_z c.part_of_512.ensures.size;
      value = λ t.
          let quotient_is = q_is t ∙ ap (λ n. rdiv n (pos (unsigned_abs c.args.self.length))) turned in
          let share_is = s_is ∙ ap (λ q. q *ℤ c.args.self.factor) quotient_is in
          simp to_z-of_z (p_is ∙ ap (λ s. rdiv s (pos 512)) share_is);
    }
