-- How far a rounded quotient is from its quotient, and vectors of which one is nearly a multiple of the other.
use borrow.Author.Differences.{up, down, sum_is_lem, neg_is, product_is}
use Rattle.std.proofs.Common.{◌≡◌, refl, ap, ◌∙◌, ℕ, zero, suc, ◌+◌, ◌-◌, ◌*◌, ◌/◌, ◌%◌, ◌<◌, ◌≤◌, inl, inr, arith, pos, negsuc, ℤ, neg_ℤ}
use Rattle.std.proofs.Common.{◌+ℤ◌, ◌-ℤ◌, ◌*ℤ◌, ◌≤ℤ◌, unsigned_abs}
use Rattle.std.proofs.lemmas.Int.{ints, unsigned_abs-mul}
use Rattle.std.proofs.lemmas.Bool.{cases_lt}
use Rattle.std.proofs.Math.Nat.{mul-le-mul, div-add-mod}
use Rattle.pbd_num.specs.declared.Vec3.{Vec3}
use Rattle.pbd_num.specs.Rounding.{rdiv}
use Rattle.pbd_num.specs.Vectors.{squared_length, length_of}
use Rattle.pbd_num.proofs.RoundingLemmas.{le_root, root_below}

-- ---- rounded quotients

-- q is the quotient n / d but for at most a half
pub record IsNear (n : ℤ) (d : ℕ) (q : ℤ) : Type 0 where
  pub low : (pos 2 *ℤ n) ≤ℤ (pos 2 *ℤ (pos d *ℤ q) +ℤ pos d)
  pub high : (pos 2 *ℤ (pos d *ℤ q)) ≤ℤ (pos 2 *ℤ n +ℤ pos d)

below_divisor : (n d : ℕ) → 0 < d → n % d < d
below_divisor n d h = omega (arith, h)

near_pos : (a d q r : ℕ) → 2 * d * q + r ≡ 2 * a + d → r < 2 * d → IsNear (pos a) d (pos q)
near_pos a d q r whole rest = record { low = omega (arith, ints, whole, rest); high = omega (arith, ints, whole, rest) }

near_neg : (a d q r : ℕ) (z : ℤ) → z ≡ neg_ℤ (pos q) → 2 * d * q + r ≡ 2 * (a + 1) + d → r < 2 * d → IsNear (negsuc a) d z
near_neg a d q r z is whole rest =
    let none = ap (λ k. d * k) (ap up is ∙ (neg_is (pos q)).0) in
    let some = ap (λ k. d * k) (ap down is ∙ (neg_is (pos q)).1) in
    record { low = omega (arith, ints, whole, rest, none, some); high = omega (arith, ints, whole, rest, none, some) }

pub near : (n : ℤ) (d : ℕ) → 0 < d → IsNear n d (rdiv n (pos d))
unfolding rdiv
near (pos a) d h =
    near_pos a d ((2 * a + d) / (2 * d)) ((2 * a + d) % (2 * d)) (div-add-mod (2 * a + d) (2 * d))
    (below_divisor (2 * a + d) (2 * d) (omega (arith, h)))
near (negsuc a) d h =
    near_neg a d ((2 * (a + 1) + d) / (2 * d)) ((2 * (a + 1) + d) % (2 * d)) _ refl (div-add-mod (2 * (a + 1) + d) (2 * d))
    (below_divisor (2 * (a + 1) + d) (2 * d) (omega (arith, h)))

-- ---- products of signed numbers

pub times-plus : (n : ℕ) (x y : ℤ) → pos n *ℤ (x +ℤ y) ≡ pos n *ℤ x +ℤ pos n *ℤ y
times-plus n x y = omega (arith, ints, ap (λ k. n * k) (sum_is_lem x y))

pub times-minus : (n : ℕ) (x y : ℤ) → pos n *ℤ (x -ℤ y) ≡ pos n *ℤ x -ℤ pos n *ℤ y
times-minus n x y =
    omega (arith, ints, ap (λ k. n * k) (sum_is_lem x (neg_ℤ y)), ap (λ k. n * k) (neg_is y).0, ap (λ k. n * k) (neg_is y).1)

pub minus-times : (x y z : ℤ) → (x -ℤ y) *ℤ z ≡ x *ℤ z -ℤ y *ℤ z
minus-times x y z =
    let sum = sum_is_lem x (neg_ℤ y) in
    let neg = neg_is y in
    let by_up = ap (λ k. k * up z) sum in
    let by_down = ap (λ k. k * down z) sum in
    omega (
      arith,
      ints,
      by_up,
      by_down,
      ap (λ k. k * up z) neg.0,
      ap (λ k. k * up z) neg.1,
      ap (λ k. k * down z) neg.0,
      ap (λ k. k * down z) neg.1,
    )

pub times : (n : ℕ) (x y : ℤ) → x ≤ℤ y → (pos n *ℤ x) ≤ℤ (pos n *ℤ y)
times zero x y h = omega (arith, ints)
times (suc n) x y h = omega (arith, ints, h, times n x y h)

pub cancel : (n x y : ℕ) → 0 < n → n * x ≤ n * y → x ≤ y
cancel n x y some h = elim (cases_lt y x) [
  | inl more ↦ let l : y + 1 ≤ x = omega (arith, more) in let same : n ≤ n = omega arith in absurd (omega (arith, mul-le-mul same l))
  | inr less ↦ less
]

-- ---- squares of sums

plus_square : (k x y : ℕ) → k ≡ x + y → k * k ≡ x * x + 2 * x * y + y * y
plus_square k x y e = omega (arith, ap (λ n. n * n) e)

minus_square : (k x y : ℕ) → k + y ≡ x → k * k + 2 * x * y ≡ x * x + y * y
minus_square k x y e = omega (arith, ap (λ n. n * n) e, ap (λ n. n * y) e)

-- the square of n a + e, by the sizes of a, e and the sum, and the two parts of a e
alike : (n a e k p d : ℕ) → p ≡ a * e → d ≡ 0 → k ≡ n * a + e → k * k + 2 * n * d ≡ n * n * (a * a) + 2 * n * p + e * e
alike n a e k p d hp hd is = omega (arith, plus_square k (n * a) e is, ap (λ x. n * x) hp, ap (λ x. n * x) hd)

above : (n a e k p d : ℕ) → p ≡ 0 → d ≡ a * e → k + e ≡ n * a → k * k + 2 * n * d ≡ n * n * (a * a) + 2 * n * p + e * e
above n a e k p d hp hd is = omega (arith, minus_square k (n * a) e is, ap (λ x. n * x) hp, ap (λ x. n * x) hd)

under : (n a e k p d : ℕ) → p ≡ 0 → d ≡ a * e → k + n * a ≡ e → k * k + 2 * n * d ≡ n * n * (a * a) + 2 * n * p + e * e
under n a e k p d hp hd is = omega (arith, minus_square k e (n * a) is, ap (λ x. n * x) hp, ap (λ x. n * x) hd)

spread_axis : (n : ℕ) (a e u : ℤ) → u ≡ pos n *ℤ a +ℤ e
    → unsigned_abs u * unsigned_abs u + 2 * n * down (a *ℤ e)
    ≡ n * n * (unsigned_abs a * unsigned_abs a) + 2 * n * up (a *ℤ e) + unsigned_abs e * unsigned_abs e
spread_axis n (pos a) (pos e) (pos u) is =
    let parts = product_is (pos a) (pos e) in alike n a e u _ _ (parts.0 ∙ omega arith) (parts.1 ∙ omega arith) (omega (arith, ints, is))
spread_axis n (pos a) (pos e) (negsuc u) is = absurd (omega (arith, ints, is))
spread_axis n (pos a) (negsuc e) (pos u) is =
    let parts = product_is (pos a) (negsuc e) in above n a (suc e) u _ _ (parts.0 ∙ omega arith) (parts.1 ∙ omega arith)
    (omega (arith, ints, is))
spread_axis n (pos a) (negsuc e) (negsuc u) is =
    let parts = product_is (pos a) (negsuc e) in under n a (suc e) (suc u) _ _ (parts.0 ∙ omega arith) (parts.1 ∙ omega arith)
    (omega (arith, ints, is))
spread_axis n (negsuc a) (pos e) (pos u) is =
    let parts = product_is (negsuc a) (pos e) in under n (suc a) e u _ _ (parts.0 ∙ omega arith) (parts.1 ∙ omega arith)
    (omega (arith, ints, is))
spread_axis n (negsuc a) (pos e) (negsuc u) is =
    let parts = product_is (negsuc a) (pos e) in above n (suc a) e (suc u) _ _ (parts.0 ∙ omega arith) (parts.1 ∙ omega arith)
    (omega (arith, ints, is))
spread_axis n (negsuc a) (negsuc e) (pos u) is =
    let parts = product_is (negsuc a) (negsuc e) in
    alike n (suc a) (suc e) u _ _ (parts.0 ∙ omega arith) (parts.1 ∙ omega arith) (absurd (omega (arith, ints, is)))
spread_axis n (negsuc a) (negsuc e) (negsuc u) is =
    let parts = product_is (negsuc a) (negsuc e) in
    alike n (suc a) (suc e) (suc u) _ _ (parts.0 ∙ omega arith) (parts.1 ∙ omega arith) (omega (arith, ints, is))

-- u is n a + e
pub record IsSpread (n : ℕ) (a e u : Vec3) : Type 0 where
  pub x : u.x ≡ pos n *ℤ a.x +ℤ e.x
  pub y : u.y ≡ pos n *ℤ a.y +ℤ e.y
  pub z : u.z ≡ pos n *ℤ a.z +ℤ e.z

-- the two parts of the product of two vectors
ups : Vec3 → Vec3 → ℕ
ups a e = up (a.x *ℤ e.x) + up (a.y *ℤ e.y) + up (a.z *ℤ e.z)

downs : Vec3 → Vec3 → ℕ
downs a e = down (a.x *ℤ e.x) + down (a.y *ℤ e.y) + down (a.z *ℤ e.z)

spread : (n : ℕ) (a e u : Vec3) → IsSpread n a e u
    → squared_length u + 2 * n * downs a e ≡ n * n * squared_length a + 2 * n * ups a e + squared_length e
unfolding ups downs
spread n a e u h =
    let x = spread_axis n a.x e.x u.x h.x in
    let y = spread_axis n a.y e.y u.y h.y in
    let z = spread_axis n a.z e.z u.z h.z in
    omega (arith, x, y, z)

-- ---- a vector that is nearly r times another of length `len`

-- as long as r - m times it, where the rest is at most m times it
far_by : (m k s p n e u l : ℕ) → 0 < m → 2 * m * n ≤ m * m * s + 2 * m * p + e
    → u + 2 * (m + k) * n ≡ (m + k) * (m + k) * s + 2 * (m + k) * p + e → l ≤ s → e ≤ m * m * l → k * k * l ≤ u
far_by m k s p n e u l some positive is long small =
    let same : m + k ≤ m + k = omega arith in
    let twice = mul-le-mul same positive in
    let scale : k * m * (m + k) ≤ k * m * (m + k) = omega arith in
    let longer = mul-le-mul scale long in
    let part : k ≤ k = omega arith in
    let smaller = mul-le-mul part small in
    let whole = ap (λ x. m * x) is in
    cancel m (k * k * l) u some (omega (arith, twice, longer, smaller, whole))

two_products : (x y : ℕ) → 2 * (x * y) ≤ x * x + y * y
two_products x y = elim (cases_lt x y) [
  | inl less ↦ omega (arith, minus_square (y - x) y x (omega (arith, less)))
  | inr more ↦ omega (arith, minus_square (x - y) x y (omega (arith, more)))
]

-- the product of two vectors that are at most a and b long
product_by : (a b x y p : ℕ) → p ≤ x * y → 2 * a * b * p ≤ b * b * (x * x) + a * a * (y * y)
product_by a b x y p h = let same : a * b ≤ a * b = omega arith in omega (arith, two_products (b * x) (a * y), mul-le-mul same h)

up_product : (a e : ℤ) → up (a *ℤ e) ≤ unsigned_abs a * unsigned_abs e
up_product (pos a) (pos e) = let parts = product_is (pos a) (pos e) in omega (arith, parts.0)
up_product (pos a) (negsuc e) = let parts = product_is (pos a) (negsuc e) in omega (arith, parts.0)
up_product (negsuc a) (pos e) = let parts = product_is (negsuc a) (pos e) in omega (arith, parts.0)
up_product (negsuc a) (negsuc e) = let parts = product_is (negsuc a) (negsuc e) in omega (arith, parts.0)

few_ups : (a b : ℕ) (v e : Vec3) → 2 * a * b * ups v e ≤ b * b * squared_length v + a * a * squared_length e
unfolding ups
few_ups a b v e =
    let x = product_by a b (unsigned_abs v.x) (unsigned_abs e.x) (up (v.x *ℤ e.x)) (up_product v.x e.x) in
    let y = product_by a b (unsigned_abs v.y) (unsigned_abs e.y) (up (v.y *ℤ e.y)) (up_product v.y e.y) in
    let z = product_by a b (unsigned_abs v.z) (unsigned_abs e.z) (up (v.z *ℤ e.z)) (up_product v.z e.z) in
    omega (arith, x, y, z)

-- no longer than r times the most that it may be, and the most of the rest
near_by : (a b r s p n e u : ℕ) → 0 < a * b → 2 * a * b * p ≤ b * b * s + a * a * e → u + 2 * r * n ≡ r * r * s + 2 * r * p + e
    → s ≤ a * a → e ≤ b * b → u ≤ (r * a + b) * (r * a + b)
near_by a b r s p n e u some h is short small =
    let bb : b * b ≤ b * b = omega arith in
    let aa : a * a ≤ a * a = omega arith in
    let rr : r * r ≤ r * r = omega arith in
    let twice : 2 * r ≤ 2 * r = omega arith in
    let first = mul-le-mul bb short in
    let second = mul-le-mul aa small in
    let few : p ≤ a * b = cancel (a * b) p (a * b) some (omega (arith, h, first, second)) in
    omega (arith, mul-le-mul rr short, mul-le-mul twice few, is, small)

below_cancel : (n x y : ℕ) → n * x < n * y → x < y
below_cancel n x y h = elim (cases_lt x y) [
  | inl less ↦ less
  | inr more ↦ let same : n ≤ n = omega arith in absurd (omega (arith, h, mul-le-mul same more))
]

-- ---- the same of vectors

-- len v is r a, but for at most m halves of len
pub record IsAxisNear (r len m : ℕ) (a v : ℤ) : Type 0 where
  pub low : (pos 2 *ℤ (pos r *ℤ a)) ≤ℤ (pos 2 *ℤ (pos len *ℤ v) +ℤ pos (m * len))
  pub high : (pos 2 *ℤ (pos len *ℤ v)) ≤ℤ (pos 2 *ℤ (pos r *ℤ a) +ℤ pos (m * len))

pub record IsVectorNear (r len m : ℕ) (a v : Vec3) : Type 0 where
  pub x : IsAxisNear r len m a.x v.x
  pub y : IsAxisNear r len m a.y v.y
  pub z : IsAxisNear r len m a.z v.z

-- what is left
left_axis : ℕ → ℕ → ℤ → ℤ → ℤ
left_axis r len a v = pos len *ℤ v -ℤ pos r *ℤ a

left_of : ℕ → ℕ → Vec3 → Vec3 → Vec3
left_of r len a v = record { x = left_axis r len a.x v.x; y = left_axis r len a.y v.y; z = left_axis r len a.z v.z }

half_size : (e : ℤ) (b : ℕ) → (pos 2 *ℤ e) ≤ℤ pos b → neg_ℤ (pos b) ≤ℤ (pos 2 *ℤ e) → 2 * unsigned_abs e ≤ b
half_size (pos n) b high low = omega (arith, ints, high)
half_size (negsuc n) b high low = omega (arith, ints, low)

left_small : (r len m : ℕ) (a v : ℤ) → IsAxisNear r len m a v
    → 4 * (unsigned_abs (left_axis r len a v) * unsigned_abs (left_axis r len a v)) ≤ m * m * (len * len)
unfolding left_axis
left_small r len m a v h =
    let t = half_size (pos len *ℤ v -ℤ pos r *ℤ a) (m * len) (omega (arith, ints, h.high)) (omega (arith, ints, h.low)) in
    omega (arith, mul-le-mul t t)

left_is : (r len : ℕ) (a v : ℤ) → pos len *ℤ v ≡ pos r *ℤ a +ℤ left_axis r len a v
unfolding left_axis
left_is r len a v = omega (arith, ints)

all_left_small : (r len m : ℕ) (a v : Vec3) → IsVectorNear r len m a v → squared_length (left_of r len a v) ≤ m * m * (len * len)
unfolding left_of
all_left_small r len m a v h = omega (arith, left_small r len m a.x v.x h.x, left_small r len m a.y v.y h.y, left_small r len m a.z v.z h.z)

-- len times v
long : ℕ → Vec3 → Vec3
long len v = record { x = pos len *ℤ v.x; y = pos len *ℤ v.y; z = pos len *ℤ v.z }

long_square : (len : ℕ) (v : Vec3) → squared_length (long len v) ≡ len * len * squared_length v
unfolding long
long_square len v =
    let x = ap (λ n. n * n) (unsigned_abs-mul (pos len) v.x) in
    let y = ap (λ n. n * n) (unsigned_abs-mul (pos len) v.y) in
    let z = ap (λ n. n * n) (unsigned_abs-mul (pos len) v.z) in
    omega (arith, x, y, z)

long_spread : (r len : ℕ) (a v : Vec3) → IsSpread r a (left_of r len a v) (long len v)
unfolding long left_of
long_spread r len a v = record { x = left_is r len a.x v.x; y = left_is r len a.y v.y; z = left_is r len a.z v.z }

-- n a + e
both : ℕ → Vec3 → Vec3 → Vec3
both n a e = record { x = pos n *ℤ a.x +ℤ e.x; y = pos n *ℤ a.y +ℤ e.y; z = pos n *ℤ a.z +ℤ e.z }

both_spread : (n : ℕ) (a e : Vec3) → IsSpread n a e (both n a e)
unfolding both
both_spread n a e = record { x = refl; y = refl; z = refl }

pub far-vector : (m k len : ℕ) (a v : Vec3) → 0 < m → 0 < len → IsVectorNear (m + k) len m a v → len * len ≤ squared_length a
    → k ≤ length_of v
far-vector m k len a v some apart h is_long =
    let e = left_of (m + k) len a v in
    let whole = spread (m + k) a e (long len v) (long_spread (m + k) len a v) in
    let part = spread m a e (both m a e) (both_spread m a e) in
    let u = far_by m k (squared_length a) (ups a e) (downs a e) (squared_length e) (squared_length (long len v)) (len * len) some
    (omega (arith, part)) whole is_long (all_left_small (m + k) len m a v h) in
    let some_square : 0 < len * len = square_some len apart in
    le_root k (squared_length v) (cancel (len * len) (k * k) (squared_length v) some_square (omega (arith, u, long_square len v)))
  where
    square_some : (n : ℕ) → 0 < n → 0 < n * n
    square_some n h = let l : 1 ≤ n = omega (arith, h) in omega (arith, mul-le-mul l l)

pub near-vector : (m r len : ℕ) (a v : Vec3) → 0 < m → 0 < len → IsVectorNear r len m a v → squared_length a < (len + 1) * (len + 1)
    → length_of v ≤ r + r / len + m
near-vector m r len a v some apart h short =
    let e = left_of r len a v in
    let most = len + 1 in
    let rest = m * len in
    let top = r + r / len + m + 1 in
    let whole = spread r a e (long len v) (long_spread r len a v) in
    let positive : 0 < most * rest = product_some m len some apart in
    let u = near_by most rest r (squared_length a) (ups a e) (downs a e) (squared_length e) (squared_length (long len v)) positive
    (few_ups most rest a e) whole (omega (arith, short)) (omega (arith, all_left_small r len m a v h)) in
    let pieces = div-add-mod r len in
    let below = below_divisor r len apart in
    let less : r * most + rest + 1 ≤ len * top = omega (arith, pieces, below) in
    let squares = mul-le-mul less less in
    let v_below = below_cancel (len * len) (squared_length v) (top * top) (omega (arith, u, squares, long_square len v)) in
    let done = root_below (squared_length v) top v_below in
    omega (arith, done)
  where
    product_some : (m n : ℕ) → 0 < m → 0 < n → 0 < (n + 1) * (m * n)
    product_some m n h k =
        let l : 1 ≤ m = omega (arith, h) in
        let j : 1 ≤ n = omega (arith, k) in
        let mn = mul-le-mul l j in
        let one : 1 ≤ n + 1 = omega arith in
        let low : 1 ≤ m * n = omega (arith, mn) in
        omega (arith, mul-le-mul one low)
