-- Both shares of a correction, by what the first leaves.
use Rattle.std.proofs.Common.{◌≡◌, ◌∙◌, ℕ, suc, zero, ap, sym, ◌+◌, ◌*◌, ◌/◌, ◌-◌, ◌<◌, ◌≤◌, arith, pos, negsuc, ℤ, neg_ℤ, ◌+ℤ◌, ◌-ℤ◌}
use Rattle.std.proofs.Common.{◌*ℤ◌, ◌<ℤ◌, ◌≤ℤ◌, unsigned_abs, inl, inr, max, w32, FitsSigned, ◌^◌, Bool, refl, to_z, of_z}
use Rattle.std.proofs.lemmas.Int.{ints, clamps, fits_signed_from_abs, to_z-of_z}
use Rattle.std.specs.Int.{int_max}
use Rattle.std.specs.Prelude.{IsTrue, int_le, int_lt, ◌&&◌}
use Rattle.std.proofs.lemmas.Bool.{and_parts, cases_lt}
use Rattle.std.proofs.Math.Nat.{mul-le-mul}
use Rattle.pbd_num.specs.Rounding.{rdiv}
use Rattle.pbd_num.specs.declared.Vec3.{Vec3}
use Rattle.pbd_num.specs.declared.row.Row.{Row}
use Rattle.pbd_num.specs.PairMove.{share_of, shares}
use Rattle.pbd_num.specs.Rows.{vector_of}
use Rattle.pbd_num.specs.Vectors.{Within, zero_vector}
use Rattle.pbd_num.proofs.Ends.{same_axes}
use Rattle.pbd_num.proofs.Signs.{times_zero, rdiv_zero, turned_first}
use Rattle.pbd_pair.specs.declared.uneven.Portion.{Portion}
use Rattle.pbd_pair.specs.Shares.{IsPortion, IsPortionOf, IsShare, IsShareable}
use Rattle.pbd_num.proofs.Sizes.{size-add, size-mul, size_at_most, pos_size}
use Rattle.pbd_num.proofs.RoundingLemmas.{rdiv-neg, size-rdiv}
use Rattle.pbd_num.proofs.Tests.{at_most, less, quotient_by_rest}

-- a quotient by 256 * t, of what it leaves and a half
pub part_by_left : (n t q left : ℕ) → 0 < t → left < 256 * t → left + q * (256 * t) ≡ n + 128 * t → pos q ≡ rdiv (pos n) (pos (256 * t))
part_by_left n t q left some small is =
    let half : 128 * t ≡ 256 * t / 2 = omega arith in
    quotient_by_rest (pos n) (pos (256 * t)) (pos q) (pos left) (pos (128 * t)) (omega (arith, ints)) (λ h. ap pos half)
    (λ h. absurd (omega (arith, ints, h))) (omega (arith, ints, is)) (omega (arith, ints)) (omega (arith, ints))

-- what is left, tested
pub left_tested : (left whole : ℤ) (t : ℕ) → whole ≡ pos (256 * t) → IsTrue (int_le (pos 0) left && int_lt left whole)
    → (pos 0 ≤ℤ left) × (unsigned_abs left < 256 * t)
left_tested left whole t is right =
    let tests = and_parts (int_le (pos 0) left) (int_lt left whole) right in
    let low = at_most (pos 0) left tests.0 in
    let high = less left whole tests.1 in
    let size = pos_size left low in
    (low, omega (arith, ints, is, high, size))

-- a part of n is at most n
pub first_below : (n w t q left : ℕ) → 0 < t → w ≤ t → left + q * (256 * t) ≡ n * w + 128 * t → 256 * q ≤ n + 128
first_below n w t q left some less is = elim (cases_lt (n + 128) (256 * q)) [
  | inl over ↦
      let next : n + 129 ≤ 256 * q = omega (arith, over) in
      let more : (n + 129) * t ≤ 256 * q * t = mul-le-mul next (omega arith) in
      let part : n * w ≤ n * t = mul-le-mul (omega arith) less in
      absurd (omega (arith, more, part, is, some))
  | inr h ↦ omega (arith, h)
]

-- both parts make n
both_parts : (n w v t q left m r : ℕ) → t ≡ w + v → left + q * (256 * t) ≡ n * w + 128 * t → 256 * m + r + 256 * q ≡ n + 256
    → n * v + 128 * t + left ≡ m * (256 * t) + r * t
both_parts n w v t q left m r sum is whole =
    let all : n * t ≡ n * w + n * v = rw sum (omega arith) in
    let times : (256 * m + r + 256 * q) * t ≡ (n + 256) * t = ap (λ x. x * t) whole in
    omega (arith, all, times, is)

-- the other part, one less where the first left more than r * t
other_lower : (n v t left m r : ℕ) → 0 < t → left < 256 * t → n * v + 128 * t + left ≡ m * (256 * t) + r * t → r * t < left
    → pos m -ℤ pos 1 ≡ rdiv (pos (n * v)) (pos (256 * t))
other_lower n v t left zero r some small both less = absurd (omega (arith, both, less))
other_lower n v t left (suc m) r some small both less =
    let rest = r * t + 256 * t - left in
    let is : rest + m * (256 * t) ≡ n * v + 128 * t = omega (arith, both, small) in
    let next : pos (suc m) -ℤ pos 1 ≡ pos m = omega (arith, ints) in
    next ∙ part_by_left (n * v) t m rest some (omega (arith, less, small)) is

other_same : (n v t left m r : ℕ) → 0 < t → r < 256 → n * v + 128 * t + left ≡ m * (256 * t) + r * t → left ≤ r * t
    → pos m ≡ rdiv (pos (n * v)) (pos (256 * t))
other_same n v t left m r some low both more =
    let below : r * t ≤ 255 * t = mul-le-mul (omega (arith, low)) (omega arith) in
    let is : (r * t - left) + m * (256 * t) ≡ n * v + 128 * t = omega (arith, both, more) in
    part_by_left (n * v) t m (r * t - left) some (omega (arith, below, some)) is

-- the second end's share
pub other_share : (n w t q left m r : ℕ) (share : ℤ) → 0 < t → w ≤ t → left < 256 * t → left + q * (256 * t) ≡ n * w + 128 * t
    → 256 * m + r + 256 * q ≡ n + 256 → r < 256 → (r * t < left → share ≡ pos m -ℤ pos 1) → (left ≤ r * t → share ≡ pos m)
    → share ≡ rdiv (pos (n * (t - w))) (pos (256 * t))
other_share n w t q left m r share some less small is whole low lower same =
    let both = both_parts n w (t - w) t q left m r (omega (arith, less)) is whole in
    elim (cases_lt (r * t) left) [
      | inl h ↦ lower h ∙ other_lower n (t - w) t left m r some small both h
      | inr h ↦ same h ∙ other_same n (t - w) t left m r some low both h
    ]

-- ---- both signs

turned_twice : (n w : ℕ) → neg_ℤ (pos n) *ℤ pos w ≡ neg_ℤ (pos (n * w))
turned_twice zero w = omega (arith, ints)
turned_twice (suc n) w = turned_first n w

-- the share of an axis is that of its size, with its sign
pub signed_share : (axis share result : ℤ) (k w t : ℕ) → 0 < t → share ≡ rdiv (pos (unsigned_abs axis * k * w)) (pos (256 * t))
    → (pos 0 ≤ℤ axis → result ≡ share) → (axis <ℤ pos 0 → result ≡ neg_ℤ share) → result ≡ share_of axis (pos k) (pos w) t
signed_share (pos a) share result k w t some is above below = above (omega (arith, ints)) ∙ is
signed_share (negsuc a) share result k w t some is above below =
    let turned : (negsuc a *ℤ pos k) *ℤ pos w ≡ neg_ℤ (pos (suc a * k * w)) = ap (λ z. z *ℤ pos w) (turned_first a k)
    ∙ turned_twice (suc a * k) w in
    below (omega (arith, ints)) ∙ ap neg_ℤ is ∙ sym (rdiv-neg (pos (suc a * k * w)) (pos (256 * t)) (omega (arith, some)))
    ∙ ap (λ z. rdiv z (pos (256 * t))) (sym turned)

-- a share is at most the axis
pub share_size : (axis : ℤ) (k w t n : ℕ) → 0 < t → k ≤ 256 → w ≤ t → unsigned_abs axis ≤ n → unsigned_abs (share_of axis (pos k) (pos w) t) ≤ n
share_size axis k w t n some few less size =
    let pulled = size-mul axis (pos k) n 256 size few in
    let part = size-mul (axis *ℤ pos k) (pos w) (n * 256) t pulled less in
    size-rdiv ((axis *ℤ pos k) *ℤ pos w) (pos (256 * t)) n (omega (arith, some)) (omega (arith, part))

-- ---- rows

no_stiffness : (s w : ℤ) (t : ℕ) → 0 < t → share_of s (pos 0) w t ≡ pos 0
no_stiffness s w t some =
    let none : (s *ℤ pos 0) *ℤ w ≡ pos 0 = ap (λ z. z *ℤ w) (times_zero s) ∙ omega (arith, ints) in
    ap (λ z. rdiv z (pos (256 * t))) none ∙ rdiv_zero (256 * t) (omega (arith, some))

none_shared : (s : Vec3) (w : ℤ) (t : ℕ) → 0 < t → shares s (pos 0) w t ≡ zero_vector
none_shared s w t some = same_axes _ _ (no_stiffness s.x w t some) (no_stiffness s.y w t some) (no_stiffness s.z w t some)

-- the same share by other words for its stiffness and weights
pub share_as : {s : Vec3} {row : Row} (k k' w w' : ℤ) (t t' : ℕ) → 0 < t' → (0 < t → (k' ≡ k) × ((w' ≡ w) × (t' ≡ t))) → (t ≡ 0 → k' ≡ pos 0)
    → IsShare s k' w' t' row → IsShare s k w t row
share_as {s} {row} k k' w w' t t' some same none h = record {
  flag = h.flag;
  size = h.size;
  value = λ some'. let e = same some' in h.value some ∙ (λ i. shares s (e.0 i) (e.1.0 i) (e.1.1 i));
  none = λ e. h.value some ∙ (λ i. shares s (none e i) w' t') ∙ none_shared s w' t' some;
}

-- the shares of three axes, as words, are the share of the correction
abbrev word : ℤ → ℤ
word z = to_z w32 (of_z w32 z)

axis_shared : (axis share k w : ℤ) (t : ℕ) → unsigned_abs axis ≤ 2 ^ 16 → unsigned_abs share ≤ 2 ^ 16 → share ≡ share_of (word axis) k w t
    → word share ≡ share_of axis k w t
axis_shared axis share k w t axis_size size is =
    let axis_is = to_z-of_z w32 axis (fits_signed_from_abs w32 axis (omega (arith, axis_size))) in
    to_z-of_z w32 share (fits_signed_from_abs w32 share (omega (arith, size))) ∙ is ∙ ap (λ (a : ℤ). share_of a k w t) axis_is

word_size : (share : ℤ) → unsigned_abs share ≤ 2 ^ 16 → unsigned_abs (word share) ≤ 2 ^ 16
word_size share size = rw (to_z-of_z w32 share (fits_signed_from_abs w32 share (omega (arith, size)))) size

pub rows_shared : (s : Row) {x y z k w : ℤ} {t : ℕ} {a b c : Bool} → 0 < t → Within (2 ^ 16) (vector_of s)
    → (IsTrue a → unsigned_abs x ≤ 2 ^ 16) → (IsTrue b → unsigned_abs y ≤ 2 ^ 16) → (IsTrue c → unsigned_abs z ≤ 2 ^ 16)
    → (IsTrue a → x ≡ share_of (word s.x) k w t) → (IsTrue b → y ≡ share_of (word s.y) k w t)
    → (IsTrue c → z ≡ share_of (word s.z) k w t) → IsTrue (a && b && c)
    → IsShare (vector_of s) k w t (record { x = word x; y = word y; z = word z; flag = pos 0 })
rows_shared s {x} {y} {z} {k} {w} {t} {a} {b} {c} some size x_size y_size z_size x_is y_is z_is right =
    let last = and_parts (a && b) c right in
    let two = and_parts a b last.0 in
    record {
      flag = refl;
      size = record { x = word_size x (x_size two.0); y = word_size y (y_size two.1); z = word_size z (z_size last.1) };
      value = λ _. same_axes _ _ (axis_shared s.x x k w t size.x (x_size two.0) (x_is two.0)) (axis_shared s.y y k w t size.y (y_size two.1) (y_is two.1))
          (axis_shared s.z z k w t size.z (z_size last.1) (z_is last.1));
      none = λ e. absurd (omega (arith, e, some));
    }

-- ---- what a bond's corrections are shared by

short_word : (z : ℤ) (n : ℕ) → n < 2 ^ 31 → unsigned_abs z ≤ n → word z ≡ z
short_word z n short size = to_z-of_z w32 z (fits_signed_from_abs w32 z (omega (arith, short, size)))

-- what words say of a bond, and of the sum of its weights
pub record SharedWords (k first second guess total : ℤ) : Type 0 where
  pub k_is : word k ≡ k
  pub first_is : word first ≡ first
  pub guess_is : word guess ≡ guess
  pub total_is : word total ≡ total
  pub sum_is : total ≡ int_max (first +ℤ second) (pos 1)

pub shared_words : {k first second guess total : ℤ} → IsShareable k first second guess → FitsSigned w32 total
    → total ≡ int_max (word (word first +ℤ word second)) (pos 1) → SharedWords k first second guess total
shared_words {k} {first} {second} {guess} {total} h fits is =
    let a = size_at_most first 65535 h.first_low h.first_high in
    let b = size_at_most second 65535 h.second_low h.second_high in
    let first_is = short_word first 65535 (omega arith) a in
    let second_is = short_word second 65535 (omega arith) b in
    let both_is = short_word (first +ℤ second) 131070 (omega arith) (omega (arith, size-add first second, a, b)) in
    record {
      k_is = short_word k 256 (omega arith) (size_at_most k 256 h.k_low h.k_high);
      first_is = first_is;
      guess_is = short_word guess (2 ^ 30) (omega arith) (size_at_most guess (2 ^ 30) h.guessed.low h.guessed.high);
      total_is = to_z-of_z w32 total fits;
      sum_is = is ∙ (λ i. int_max (word (first_is i +ℤ second_is i)) (pos 1)) ∙ ap (λ (z : ℤ). int_max z (pos 1)) both_is;
    }

-- the sum of two weights, or 1 where that is 0
weighed : (first second total : ℤ) → pos 0 ≤ℤ first → pos 0 ≤ℤ second → total ≡ int_max (first +ℤ second) (pos 1)
    → unsigned_abs total ≡ max (unsigned_abs first + unsigned_abs second) 1
weighed (pos a) (pos b) total h k is = rw is (omega (arith, ints, clamps))
weighed (pos a) (negsuc b) total h k is = absurd (omega (arith, ints))
weighed (negsuc a) second total h k is = absurd (omega (arith, ints))

abbrev pub portion_by : ℤ → ℤ → ℤ → ℤ → Portion
portion_by k first total guess = record {
  k = unsigned_abs k;
  first = unsigned_abs first;
  total = unsigned_abs total;
  guess = unsigned_abs guess;
}

pub is_portion : {k first second guess : ℤ} (total : ℤ) → IsShareable k first second guess → total ≡ int_max (first +ℤ second) (pos 1)
    → IsPortion (portion_by k first total guess)
is_portion {k} {first} {second} {guess} total h is =
    let both = weighed first second total h.first_low h.second_low is in
    let a = size_at_most first 65535 h.first_low h.first_high in
    let b = size_at_most second 65535 h.second_low h.second_high in
    record {
      k = size_at_most k 256 h.k_low h.k_high;
      first = omega (arith, both);
      some = omega (arith, both);
      total = omega (arith, both, a, b);
      guess = size_at_most guess (2 ^ 30) h.guessed.low h.guessed.high;
    }

pub is_portion_of : {k first second guess : ℤ} (total : ℤ) → IsShareable k first second guess → total ≡ int_max (first +ℤ second) (pos 1)
    → IsPortionOf k first second (portion_by k first total guess)
is_portion_of {k} {first} {second} {guess} total h is =
    let both = weighed first second total h.first_low h.second_low is in
    record {
      k = sym (pos_size k h.k_low);
      first = sym (pos_size first h.first_low);
      total = λ some. omega (arith, both, some);
    }

-- ---- the shares of a bond with these weights

pub shared_first : {k first second guess : ℤ} {p : Portion} {s : Vec3} {row : Row} → IsShareable k first second guess → IsPortion p
    → IsPortionOf k first second p → IsShare s (pos p.k) (pos p.first) p.total row
    → IsShare s k first (unsigned_abs first + unsigned_abs second) row
shared_first {k} {first} {second} {guess} {p} h portion of share =
    share_as k (pos p.k) first (pos p.first) (unsigned_abs first + unsigned_abs second) p.total portion.some
    (λ some. (of.k, (of.first, of.total some))) (λ e. of.k ∙ h.held e) share

pub shared_second : {k first second guess : ℤ} {p : Portion} {s : Vec3} {row : Row} → IsShareable k first second guess → IsPortion p
    → IsPortionOf k first second p → IsShare s (pos p.k) (pos (p.total - p.first)) p.total row
    → IsShare s k second (unsigned_abs first + unsigned_abs second) row
shared_second {k} {first} {second} {guess} {p} h portion of share =
    let one : p.first ≡ unsigned_abs first = ap unsigned_abs of.first in
    share_as k (pos p.k) second (pos (p.total - p.first)) (unsigned_abs first + unsigned_abs second) p.total portion.some
    (λ some. (of.k, (ap pos (omega (arith, one, of.total some)) ∙ sym (pos_size second h.second_low), of.total some)))
    (λ e. of.k ∙ h.held e) share
