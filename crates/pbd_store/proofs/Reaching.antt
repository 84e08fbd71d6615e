-- Axes that are raised by a limit, as bits.
use Rattle.std.proofs.Common.{◌≡◌, ◌*◌, ◌^◌, ◌≤◌, ℤ, pos, negsuc, ◌+ℤ◌, ◌≤ℤ◌, unsigned_abs, w32, of_z, refl, arith}
use Rattle.std.proofs.lemmas.Int.{ints}
use Rattle.pbd_num.proofs.Sizes.{pos_size, size_below, size_le}

-- where the bits are at most twice the limit, the axis is within it: below minus the limit they are those of a negative number
pub raised_within : (axis limit : ℤ) → pos 0 ≤ℤ limit → unsigned_abs axis ≤ 2 ^ 30 → unsigned_abs limit ≤ 2 ^ 29
    → of_z w32 (axis +ℤ limit) ≤ 2 * unsigned_abs limit → unsigned_abs axis ≤ unsigned_abs limit
raised_within axis limit low size high few = within_by_sum (axis +ℤ limit) refl few
  where
    within_by_sum : (z : ℤ) → axis +ℤ limit ≡ z → of_z w32 z ≤ 2 * unsigned_abs limit → unsigned_abs axis ≤ unsigned_abs limit
    within_by_sum (pos n) e h = let l = pos_size limit low in
        size_le axis (unsigned_abs limit) (omega (arith, ints)) (omega (arith, ints))
    within_by_sum (negsuc n) e h = let l = pos_size limit low in absurd (omega (arith, ints, size_below axis))
