-- What the exact tests of guesses say.
use Rattle.std.proofs.Common.{◌≡◌, false, ℕ, suc, ◌+◌, ◌*◌, ◌/◌, ◌-◌, ◌<◌, ◌≤◌, ◌^◌, ap, sym, arith, pos, negsuc, ℤ, neg_ℤ, ◌+ℤ◌}
use Rattle.std.proofs.Common.{◌-ℤ◌, ◌*ℤ◌, ◌<ℤ◌, ◌≤ℤ◌, unsigned_abs}
use Rattle.std.specs.Prelude.{IsTrue, int_le, int_lt}
use Rattle.std.proofs.lemmas.Bool.Decides.{nat_tests}
use Rattle.std.proofs.lemmas.Int.{ints}
use Rattle.std.proofs.lemmas.Nat.{div-mul-add}
use Rattle.pbd_num.specs.Rounding.{rdiv, root}
use Rattle.pbd_num.proofs.RoundingLemmas.{root_is, rdiv-neg}
use Rattle.pbd_num.proofs.Signs.{turned_first, neg_times}

-- what tests say
pub at_most : (a b : ℤ) → IsTrue (int_le a b) → a ≤ℤ b
at_most a b h = grind (arith, ints, nat_tests)

pub beyond : (a b : ℤ) → int_le a b ≡ false → b <ℤ a
beyond a b h = grind (arith, ints, nat_tests)

pub less : (a b : ℤ) → IsTrue (int_lt a b) → a <ℤ b
less a b h = grind (arith, ints, nat_tests)

-- a root by what its square leaves of the number
pub root_by_rest : (n r : ℤ) → pos 0 ≤ℤ n → pos 0 ≤ℤ r → pos 0 ≤ℤ (n -ℤ r *ℤ r) → (n -ℤ r *ℤ r) ≤ℤ (pos 2 *ℤ r)
    → r ≡ pos (root (unsigned_abs n))
root_by_rest (pos n) (pos r) h k low high = ap pos (root_is n r (omega (arith, ints)) (omega (arith, ints)))
root_by_rest (negsuc n) r h k low high = absurd (omega (arith, ints))
root_by_rest (pos n) (negsuc r) h k low high = absurd (omega (arith, ints))

whole_quotient : (a b len : ℕ) → 0 < len → b * len ≤ a + len / 2 → a + len / 2 < b * len + len → b ≡ (2 * a + len) / (2 * len)
whole_quotient a b len some low high =
    let double : b * (2 * len) ≡ 2 * (b * len) = omega arith in
    let rest : 2 * a + len - b * (2 * len) < 2 * len = omega arith in
    let whole : 2 * a + len ≡ b * (2 * len) + (2 * a + len - b * (2 * len)) = omega arith in
    rw whole (sym (div-mul-add b (2 * len) (2 * a + len - b * (2 * len)) rest))

-- a quotient of a number from 0 up by what it leaves
quotient_from_zero : (n q : ℤ) (len : ℕ) → 0 < len → pos 0 ≤ℤ n → pos 0 ≤ℤ ((n -ℤ q *ℤ pos len) +ℤ pos (len / 2))
    → ((n -ℤ q *ℤ pos len) +ℤ pos (len / 2)) <ℤ pos len → q ≡ rdiv n (pos len)
unfolding rdiv
quotient_from_zero (pos a) (pos b) len some h low high = ap pos (whole_quotient a b len some (omega (arith, ints)) (omega (arith, ints)))
quotient_from_zero (pos a) (negsuc b) len some h low high =
    let turned = turned_first b len in
    let more : 1 * len ≤ suc b * len = omega (arith, some) in
    absurd (omega (arith, ints))
quotient_from_zero (negsuc a) q len some h low high = absurd (omega (arith, ints))

-- of a number below 0
quotient_below_zero : (n q : ℤ) (len : ℕ) → 0 < len → n <ℤ pos 0 → pos 0 ≤ℤ ((n -ℤ q *ℤ pos len) +ℤ pos ((len - 1) / 2))
    → ((n -ℤ q *ℤ pos len) +ℤ pos ((len - 1) / 2)) <ℤ pos len → q ≡ rdiv n (pos len)
quotient_below_zero n q len some h low high =
    let halves : (len - 1) / 2 + len / 2 + 1 ≡ len = omega arith in
    let turned = neg_times q len in
    let opposite : neg_ℤ q ≡ rdiv (neg_ℤ n) (pos len) = quotient_from_zero (neg_ℤ n) (neg_ℤ q) len some (omega (arith, ints))
    (omega (arith, ints)) (omega (arith, ints)) in
    let odd = rdiv-neg n (pos len) some in
    omega (arith, ints)

-- both
pub quotient_by_rest : (n length q raised half : ℤ) → pos 0 <ℤ length → (pos 0 ≤ℤ n → half ≡ pos (unsigned_abs length / 2))
    → (n <ℤ pos 0 → half ≡ pos ((unsigned_abs length - 1) / 2)) → raised ≡ (n -ℤ q *ℤ length) +ℤ half → pos 0 ≤ℤ raised → raised <ℤ length
    → q ≡ rdiv n (pos (unsigned_abs length))
quotient_by_rest (pos a) (pos len) q raised half some above below is low high =
    let e = above (omega (arith, ints)) in
    quotient_from_zero (pos a) q len (omega (arith, ints)) (omega (arith, ints)) (omega (arith, ints)) (omega (arith, ints))
quotient_by_rest (negsuc a) (pos len) q raised half some above below is low high =
    let e = below (omega (arith, ints)) in
    quotient_below_zero (negsuc a) q len (omega (arith, ints)) (omega (arith, ints)) (omega (arith, ints)) (omega (arith, ints))
quotient_by_rest n (negsuc len) q raised half some above below is low high = absurd (omega (arith, ints))

-- a part of 512
part_above : (p raised : ℤ) → pos 0 ≤ℤ p → raised ≡ p +ℤ pos 2199023255808
    → pos (unsigned_abs raised / 512) -ℤ pos 4294967296 ≡ rdiv p (pos 512)
unfolding rdiv
part_above (pos a) raised h e =
    let size : unsigned_abs raised ≡ a + 2199023255808 = omega (arith, ints) in
    omega (arith, ints)
part_above (negsuc a) raised h e = absurd (omega (arith, ints))

part_below : (p raised : ℤ) → p <ℤ pos 0 → unsigned_abs p ≤ 2 ^ 40 → raised ≡ p +ℤ pos 2199023255807
    → pos (unsigned_abs raised / 512) -ℤ pos 4294967296 ≡ rdiv p (pos 512)
unfolding rdiv
part_below (negsuc a) raised h fits e =
    let size : unsigned_abs raised + (a + 1) ≡ 2199023255807 = omega (arith, ints) in
    omega (arith, ints)
part_below (pos a) raised h fits e = absurd (omega (arith, ints))

pub part_by_raised : (p raised : ℤ) → unsigned_abs p ≤ 2 ^ 40 → (pos 0 ≤ℤ p → raised ≡ p +ℤ pos 2199023255808)
    → (p <ℤ pos 0 → raised ≡ p +ℤ pos 2199023255807) → pos (unsigned_abs raised / 512) -ℤ pos 4294967296 ≡ rdiv p (pos 512)
part_by_raised (pos a) raised fits above below = let h : pos 0 ≤ℤ pos a = omega (arith, ints) in part_above (pos a) raised h (above h)
part_by_raised (negsuc a) raised fits above below = let h : negsuc a <ℤ pos 0 = omega (arith, ints) in
    part_below (negsuc a) raised h fits (below h)
