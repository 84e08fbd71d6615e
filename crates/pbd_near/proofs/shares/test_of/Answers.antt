use Rattle.std.proofs.Common.{arith, ap, ◌+ℤ◌, w32, FitsSigned}
use Rattle.std.proofs.lemmas.Int.{to_z-of_z, fits_signed_from_abs, ints}
use Rattle.pbd_num.proofs.Sizes.{size-add, size_le}
use Rattle.pbd_near.proofs.Mending.{mended_quotient}
use Rattle.pbd_near.proofs.shares.test_of.Goals as goal

pub returns : goal.returns
returns c =
    let n = c.ranges.n in
    let q = c.ranges.quotient in
    let l = c.ranges.length in
    let left : FitsSigned w32 c.left_of.result = record { sfits = c.left_of.type_inv } in
    let half : FitsSigned w32 c.half_of.result = record { sfits = c.half_of.type_inv } in
    let quotient : FitsSigned w32 c.mended.result = record { sfits = c.mended.type_inv } in
    let short = size_le c.half_of.result 16383 c.half_of.ensures.high (omega (arith, ints, c.half_of.ensures.low)) in
    let sum = size-add c.left_of.result c.half_of.result in
    let raised = fits_signed_from_abs w32 (c.left_of.result +ℤ c.half_of.result) (omega (arith, sum, c.left_of.ensures.size)) in
    let value = simp to_z-of_z at c.left_of.ensures.value in
    let above = simp to_z-of_z at c.half_of.ensures.above in
    let below = simp to_z-of_z at c.half_of.ensures.below in
    let same = simp to_z-of_z at c.mended.ensures.same in
    let next = simp to_z-of_z at c.mended.ensures.next in
    let low = simp to_z-of_z at c.is_near.ensures.low in
    let high = simp to_z-of_z at c.is_near.ensures.high in
    record {
      value = λ t. simp to_z-of_z (mended_quotient c.args.n c.args.length c.args.quotient _ c.half_of.result c.mended.result above below
          (ap (λ r. r +ℤ c.half_of.result) value) (low t) (high t) same next);
      some = λ t. omega (arith, ints, low t, high t);
      size = simp to_z-of_z c.mended.ensures.size;
    }
