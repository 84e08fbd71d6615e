use Rattle.std.proofs.Common.{arith, ◌+ℤ◌, w32, FitsSigned}
use Rattle.std.proofs.lemmas.Int.{fits_signed_from_abs, to_z-of_z}
use Rattle.pbd_num.proofs.Sizes.{size-add}
use Rattle.pbd_store.proofs.Reaching.{raised_within}
use Rattle.pbd_store.proofs.reach.raised.Goals as goal

pub returns : goal.returns
returns c =
    let axis = c.ranges.axis in
    let limit = c.ranges.limit in
    let short : FitsSigned w32 c.args.limit = fits_signed_from_abs w32 c.args.limit (omega (arith, c.requires.high)) in
    let sum : FitsSigned w32 (c.args.axis +ℤ c.args.limit) = fits_signed_from_abs w32 (c.args.axis +ℤ c.args.limit)
    (omega (arith, size-add c.args.axis c.args.limit, c.requires.axis, c.requires.high)) in
    let bits = simp to_z-of_z at c.cast_unsigned.ensures in
    λ h. raised_within c.args.axis c.args.limit c.requires.low c.requires.axis c.requires.high (omega (arith, bits, h))
