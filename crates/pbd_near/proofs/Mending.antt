-- What a tested guess is.
use Rattle.std.proofs.Common.{◌≡◌, ◌∙◌, ℕ, suc, zero, refl, ap, ◌+◌, ◌*◌, ◌/◌, ◌-◌, ◌≤◌, min, arith, pos, negsuc, ℤ, ◌+ℤ◌, ◌-ℤ◌, ◌*ℤ◌, ◌<ℤ◌}
use Rattle.std.proofs.Common.{◌≤ℤ◌, unsigned_abs}
use Rattle.std.proofs.lemmas.Int.{ints, by_lt_z}
use Rattle.std.proofs.Math.Nat.{mul-le-mul}
use Rattle.std.proofs.Math.IntN.{suc_ℤ, suc_ℤ-*ℤ}
use Rattle.std.specs.Int.Signed.{shr_z}
use Rattle.pbd_num.specs.Rounding.{rdiv, root}
use Rattle.pbd_num.proofs.Tests.{quotient_by_rest, root_by_rest}

next_number : (q : ℤ) → q +ℤ pos 1 ≡ suc_ℤ q
next_number (pos a) = omega (arith, ints)
next_number (negsuc zero) = refl
next_number (negsuc (suc a)) = omega (arith, ints)

times_next : (q : ℤ) (len : ℕ) → (q +ℤ pos 1) *ℤ pos len ≡ (q *ℤ pos len) +ℤ pos len
times_next q len = ap (λ v. v *ℤ pos len) (next_number q) ∙ suc_ℤ-*ℤ q (pos len)

-- a quotient that is right or one too small
pub mended_quotient : (n length q raised half r : ℤ) → (pos 0 ≤ℤ n → half ≡ pos (unsigned_abs length / 2))
    → (n <ℤ pos 0 → pos 0 <ℤ length → half ≡ pos ((unsigned_abs length - 1) / 2)) → raised ≡ (n -ℤ q *ℤ length) +ℤ half → pos 0 ≤ℤ raised
    → raised <ℤ (pos 2 *ℤ length) → (raised <ℤ length → r ≡ q) → (length ≤ℤ raised → r ≡ q +ℤ pos 1)
    → r ≡ rdiv n (pos (unsigned_abs length))
mended_quotient n (negsuc len) q raised half r above below is low high same next = absurd (omega (arith, ints))
mended_quotient n (pos len) q raised half r above below is low high same next =
    let some : pos 0 <ℤ pos len = omega (arith, ints) in
    by_lt_z raised (pos len)
    (λ h.
    let e = same h in
    let rest : raised ≡ (n -ℤ r *ℤ pos len) +ℤ half = rw e is in
    quotient_by_rest n (pos len) r raised half some above (λ k. below k some) rest low h)
    (λ h.
    let e = next h in
    let product : r *ℤ pos len ≡ (q *ℤ pos len) +ℤ pos len = rw e (times_next q len) in
    let rest : raised -ℤ pos len ≡ (n -ℤ r *ℤ pos len) +ℤ half = rw product (omega (arith, ints)) in
    quotient_by_rest n (pos len) r (raised -ℤ pos len) half some above (λ k. below k some) rest (omega (arith, ints)) (omega (arith, ints)))

-- a part of 512 by a shift
part_above : (a : ℕ) → shr_z (pos (a + 256)) 512 ≡ rdiv (pos a) (pos 512)
unfolding rdiv
part_above a = ap pos (omega arith)

part_below : (a : ℕ) (raised : ℤ) → raised ≡ negsuc a +ℤ pos 255 → shr_z raised 512 ≡ rdiv (negsuc a) (pos 512)
unfolding rdiv
part_below a (pos b) e =
    let less : b + a + 1 ≡ 255 = omega (arith, ints) in
    let none : b / 512 ≡ 0 = omega arith in
    let whole : (2 * (a + 1) + 512) / (2 * 512) ≡ 0 = omega arith in
    rw (none, whole) refl
part_below a (negsuc b) e =
    let more : a ≡ b + 255 = omega (arith, ints) in
    let whole : (2 * (a + 1) + 512) / (2 * 512) ≡ suc (b / 512) = omega arith in
    rw whole refl

pub part_by_shift : (p raised : ℤ) → (pos 0 ≤ℤ p → raised ≡ p +ℤ pos 256) → (p <ℤ pos 0 → raised ≡ p +ℤ pos 255)
    → shr_z raised 512 ≡ rdiv p (pos 512)
part_by_shift (pos a) raised above below =
    let e : raised ≡ pos (a + 256) = above (omega (arith, ints)) in
    rw e (part_above a)
part_by_shift (negsuc a) raised above below = part_below a raised (below (omega (arith, ints)))

-- a root, tested with a square that is cut off above what fits
pub tested_root : (n : ℕ) (length : ℤ) → pos 0 ≤ℤ length → length ≤ℤ pos 32767
    → pos 0 ≤ℤ (pos (min n 2147483647) -ℤ pos (unsigned_abs length * unsigned_abs length))
    → (pos (min n 2147483647) -ℤ pos (unsigned_abs length * unsigned_abs length)) ≤ℤ (pos 2 *ℤ length) → length ≡ pos (root n)
tested_root n (negsuc len) h k low high = absurd (omega (arith, ints))
tested_root n (pos len) h k low high =
    let short : len ≤ 32767 = omega (arith, ints) in
    let square : len * len ≤ 32767 * 32767 = mul-le-mul short short in
    let whole : min n 2147483647 ≡ n = omega (arith, ints) in
    root_by_rest (pos n) (pos len) (omega (arith, ints)) h (omega (arith, ints)) (omega (arith, ints))
