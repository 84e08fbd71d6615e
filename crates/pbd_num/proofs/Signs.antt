-- Rounded quotients of products, by sizes and signs.
use Rattle.std.proofs.Common.{◌≡◌, ℕ, suc, zero, ◌+◌, ◌*◌, ◌/◌, ◌<◌, ap, ◌∙◌, sym, arith, pos, negsuc, ℤ, neg_ℤ, ◌*ℤ◌, ◌<ℤ◌, ◌≤ℤ◌, unsigned_abs}
use Rattle.std.proofs.lemmas.Int.{ints}
use Rattle.std.proofs.Math.Nat.{mul-div-mul_right, mul-le-mul}
use Rattle.std.proofs.Math.IntN.{*ℤ-zero, *ℤ-negsuc}
use Rattle.pbd_num.specs.Rounding.{rdiv}
use Rattle.pbd_num.specs.PairMove.{share_of}
use Rattle.pbd_num.proofs.RoundingLemmas.{rdiv-neg, quotient_of_zero}

turned_second : (a b : ℕ) → pos a *ℤ negsuc b ≡ neg_ℤ (pos (a * suc b))
turned_second a b = omega (arith, ints)

pub turned_first : (a b : ℕ) → negsuc a *ℤ pos b ≡ neg_ℤ (pos (suc a * b))
turned_first a b = omega (arith, ints)

pub neg_times : (q : ℤ) (n : ℕ) → neg_ℤ q *ℤ pos n ≡ neg_ℤ (q *ℤ pos n)
neg_times (pos zero) n = omega (arith, ints)
neg_times (pos (suc b)) n = turned_first b n
neg_times (negsuc b) n = omega (arith, ints, turned_first b n)

times_neg : (a : ℤ) (n : ℕ) → a *ℤ neg_ℤ (pos n) ≡ neg_ℤ (a *ℤ pos n)
times_neg a zero = *ℤ-zero a ∙ sym (ap neg_ℤ (*ℤ-zero a))
times_neg a (suc n) = *ℤ-negsuc a n

-- products of three numbers
assoc_above : (a : ℤ) (k w : ℕ) → a *ℤ pos (k * w) ≡ (a *ℤ pos k) *ℤ pos w
assoc_above (pos a) k w = ap pos (omega arith)
assoc_above (negsuc a) k w = ap (λ n. neg_ℤ (pos n)) (omega arith) ∙ sym (neg_times (pos (suc a * k)) w)

pub times_assoc : (a k : ℤ) (w : ℕ) → a *ℤ (k *ℤ pos w) ≡ (a *ℤ k) *ℤ pos w
times_assoc a (pos k) w = assoc_above a k w
times_assoc a (negsuc k) w =
    times_neg a (suc k * w) ∙ ap neg_ℤ (assoc_above a (suc k) w) ∙ sym (neg_times (a *ℤ pos (suc k)) w)
    ∙ ap (λ n. n *ℤ pos w) (sym (*ℤ-negsuc a k))

pub first_below : (e d : ℤ) (len : ℕ) → 0 < len → e <ℤ pos 0 → pos 0 ≤ℤ d
    → rdiv (e *ℤ d) (pos len) ≡ neg_ℤ (pos ((2 * (unsigned_abs e * unsigned_abs d) + len) / (2 * len)))
unfolding rdiv
first_below (negsuc a) (pos b) len l h k = ap (λ z. rdiv z (pos len)) (turned_first a b) ∙ rdiv-neg (pos (suc a * b)) (pos len) l
first_below (negsuc a) (negsuc b) len l h k = absurd (omega (arith, ints))
first_below (pos a) d len l h k = absurd (omega (arith, ints))

-- ---- factors that cancel

quotient_cancel : (a c d : ℕ) → 0 < c → (2 * (a * c) + d * c) / (2 * (d * c)) ≡ (2 * a + d) / (2 * d)
quotient_cancel a c d h =
    let e : 2 * (a * c) + d * c ≡ (2 * a + d) * c = omega arith in
    let f : 2 * (d * c) ≡ 2 * d * c = omega arith in
    rw (e, f) (mul-div-mul_right (2 * a + d) (2 * d) h)

pub rdiv-cancel : (n : ℤ) (c d : ℕ) → 0 < c → 0 < d → rdiv (n *ℤ pos c) (pos (d * c)) ≡ rdiv n (pos d)
unfolding rdiv
rdiv-cancel (pos a) c d h k = ap pos (quotient_cancel a c d h)
rdiv-cancel (negsuc a) c d h k =
    let some : 0 < d * c = omega (arith, mul-le-mul k h) in
    let e : suc a ≡ a + 1 = omega arith in
    first_below (negsuc a) (pos c) (d * c) some (omega (arith, ints)) (omega (arith, ints))
    ∙ ap (λ x. neg_ℤ (pos x)) (rw e (quotient_cancel (a + 1) c d h))

-- the rounded quotient of 0
pub rdiv_zero : (d : ℕ) → 0 < d → rdiv (pos 0) (pos d) ≡ pos 0
unfolding rdiv
rdiv_zero d h = ap pos (quotient_of_zero d h)

pub times_zero : (z : ℤ) → z *ℤ pos 0 ≡ pos 0
times_zero z = omega (arith, ints)

turned_twice : (x : ℕ) → neg_ℤ (pos x) *ℤ pos 2 ≡ neg_ℤ (pos (x * 2))
turned_twice x = omega (arith, ints)

twice_below : (k : ℕ) → pos 2 *ℤ negsuc k ≡ negsuc (2 * k + 1)
twice_below k = omega (arith, ints)

doubled : (s k : ℤ) → (s *ℤ k) *ℤ pos 2 ≡ s *ℤ (pos 2 *ℤ k)
doubled (pos s) (pos k) = ap pos (omega arith)
doubled (pos s) (negsuc k) = ap (λ z. z *ℤ pos 2) (turned_second s k) ∙ turned_twice (s * suc k) ∙ ap (λ x. neg_ℤ (pos x)) (omega arith)
    ∙ sym (ap (λ z. pos s *ℤ z) (twice_below k) ∙ turned_second s (2 * k + 1))
doubled (negsuc s) (pos k) = ap (λ z. z *ℤ pos 2) (turned_first s k) ∙ turned_twice (suc s * k) ∙ ap (λ x. neg_ℤ (pos x)) (omega arith)
    ∙ sym (turned_first s (2 * k))
doubled (negsuc s) (negsuc k) = ap pos (omega arith) ∙ sym (ap (λ z. negsuc s *ℤ z) (twice_below k))

-- ---- shares of a weight that is half of all, all of it or none

pub share_half : (s k w : ℤ) (total : ℕ) → 0 < total → pos 2 *ℤ w ≡ pos total → share_of s k w total ≡ rdiv (s *ℤ k) (pos 512)
share_half s k (pos w) total h e =
    let half : 2 * w ≡ total = omega (arith, ints) in
    let some : 0 < w = omega arith in
    let all : 256 * total ≡ 512 * w = omega arith in
    ap (λ x. rdiv ((s *ℤ k) *ℤ pos w) (pos x)) all ∙ rdiv-cancel (s *ℤ k) w 512 some (omega arith)
share_half s k (negsuc w) total h e = absurd (omega (arith, ints))

pub share_all : (s k w : ℤ) (total : ℕ) → 0 < total → w ≡ pos total → share_of s k w total ≡ rdiv (s *ℤ (pos 2 *ℤ k)) (pos 512)
share_all s k w total h e =
    ap (λ x. rdiv ((s *ℤ k) *ℤ x) (pos (256 * total))) e ∙ rdiv-cancel (s *ℤ k) total 256 h (omega arith)
    ∙ sym (rdiv-cancel (s *ℤ k) 2 256 (omega arith) (omega arith)) ∙ ap (λ x. rdiv x (pos 512)) (doubled s k)

pub share_none : (s k : ℤ) (total : ℕ) → 0 < total → share_of s k (pos 0) total ≡ pos 0
share_none s k total h = ap (λ x. rdiv x (pos (256 * total))) (times_zero (s *ℤ k)) ∙ rdiv_zero (256 * total) (omega arith)
