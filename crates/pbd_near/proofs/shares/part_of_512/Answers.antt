use Rattle.std.proofs.Common.{arith, ◌≡◌, ◌^◌, pos, w32, FitsSigned}
use Rattle.std.proofs.lemmas.Int.{to_z-of_z, fits_signed_from_abs}
use Rattle.std.specs.Int.Signed.{shr_z}
use Rattle.pbd_num.specs.Rounding.{rdiv}
use Rattle.pbd_num.proofs.RoundingLemmas.{size-rdiv}
use Rattle.pbd_near.proofs.Mending.{part_by_shift}
use Rattle.pbd_near.proofs.shares.part_of_512.Goals as goal

pub returns-clause-value : goal.returns-clause-value
returns-clause-value c =
    let p = c.ranges.share in
    let r : FitsSigned w32 c.raise.result = record { sfits = c.raise.type_inv } in
    let above = simp to_z-of_z at c.raise.ensures.above in
    let below = simp to_z-of_z at c.raise.ensures.below in
    let e : shr_z c.raise.result 512 ≡ rdiv c.args.share (pos 512) = part_by_shift c.args.share c.raise.result above below in
    let size = size-rdiv c.args.share (pos 512) (2 ^ 16) (omega arith) (omega (arith, c.requires)) in
    let whole = fits_signed_from_abs w32 (rdiv c.args.share (pos 512)) (omega arith) in
    simp to_z-of_z (rw e (simp to_z-of_z))

pub returns-clause-size : goal.returns-clause-size
returns-clause-size c = rw (returns-clause-value c) (size-rdiv c.args.share (pos 512) (2 ^ 16) (omega arith) (omega (arith, c.requires)))
