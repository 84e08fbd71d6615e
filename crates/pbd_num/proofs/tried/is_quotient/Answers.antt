use Rattle.std.proofs.Common.{arith, ap, ◌+ℤ◌, w64, FitsSigned}
use Rattle.std.proofs.lemmas.Int.{to_z-of_z}
use Rattle.std.proofs.lemmas.Bool.{and_parts}
use Rattle.pbd_num.proofs.Sizes.{fits, size-add}
use Rattle.pbd_num.proofs.Tests.{at_most, less, quotient_by_rest}
use Rattle.pbd_num.proofs.tried.is_quotient.Goals as goal

pub returns : goal.returns
returns c t some =
    let n_fits = c.ranges.n in
    let q_fits = c.ranges.q in
    let length_fits = c.ranges.length in
    let rest : FitsSigned w64 c.rest_of.result = record { sfits = c.rest_of.type_inv } in
    let half : FitsSigned w64 c.half_of.result = record { sfits = c.half_of.type_inv } in
    let raised = fits (c.rest_of.result +ℤ c.half_of.result)
    (omega (arith, size-add c.rest_of.result c.half_of.result, c.rest_of.ensures.size, c.half_of.ensures.size)) in
    let t' = simp to_z-of_z at t in
    let both = and_parts _ _ t' in
    let low = at_most _ _ both.0 in
    let high = less _ _ both.1 in
    let value = simp to_z-of_z at c.rest_of.ensures.value in
    let above = simp to_z-of_z at c.half_of.ensures.above in
    let below = simp to_z-of_z at c.half_of.ensures.below in
    quotient_by_rest c.args.n c.args.length c.args.q (c.rest_of.result +ℤ c.half_of.result) c.half_of.result some above (λ h. below h some)
    (ap (λ r. r +ℤ c.half_of.result) value) low high
