-- The sizes of sums, differences and parts of vectors.
use Rattle.std.proofs.Common.{◌≡◌, ℕ, ◌+◌, ◌*◌, ◌<◌, ◌≤◌, ◌^◌, arith, ℤ, pos, neg_ℤ, ◌+ℤ◌, ◌-ℤ◌, ◌*ℤ◌, ◌<ℤ◌, unsigned_abs, w64, FitsSigned}
use Rattle.std.proofs.Common.{to_z, of_z}
use Rattle.std.proofs.lemmas.Int.{ints, to_z-of_z}
use Rattle.pbd_num.specs.declared.Vec3.{Vec3}
use Rattle.pbd_num.specs.Rounding.{rdiv}
use Rattle.std.proofs.Math.Nat.{mul-le-mul}
use Rattle.pbd_num.specs.Vectors.{Within, axis_by_axis, plus, minus, opposite, times, zero_vector, squared_length}
use Rattle.pbd_num.proofs.Sizes.{fits, size-add, size-sub, size-neg, size-mul, positive_above}
use Rattle.pbd_num.proofs.RoundingLemmas.{size-rdiv}
use Rattle.pbd_num.proofs.Lengths.{squared_length_le}

-- the axes of a vector fit 64 bits
pub record FitAxes (v : Vec3) : Type 0 where
  pub x : FitsSigned w64 v.x
  pub y : FitsSigned w64 v.y
  pub z : FitsSigned w64 v.z

pub fit_axes : (v : Vec3) (n : ℕ) → n < 2 ^ 63 → Within n v → FitAxes v
fit_axes v n l h = record {
  x = fits v.x (omega (arith, l, h.x));
  y = fits v.y (omega (arith, l, h.y));
  z = fits v.z (omega (arith, l, h.z));
}

-- a number as it stands in 64 bits, and the axes of a vector
abbrev pub word : ℤ → ℤ
word n = to_z w64 (of_z w64 n)

abbrev pub words : Vec3 → Vec3
words v = record { x = word v.x; y = word v.y; z = word v.z }

pub words_within : (v : Vec3) (n : ℕ) → n < 2 ^ 63 → Within n v → Within n (words v)
words_within v n small h =
    let fit = fit_axes v n small h in
    let x = fit.x in
    let y = fit.y in
    let z = fit.z in
    simp to_z-of_z h

-- a function of each axis of two vectors, and of a number and each axis, as it comes to stand in 64 bits
axis_is : (f : ℤ → ℤ → ℤ) (a b : ℤ) → FitsSigned w64 a → FitsSigned w64 b → FitsSigned w64 (f a b) → word (f (word a) (word b)) ≡ f a b
axis_is f a b a_fits b_fits fit = simp to_z-of_z

axes_are : (f : ℤ → ℤ → ℤ) (a b : Vec3) → Within (2 ^ 61) a → Within (2 ^ 61) b → Within (2 ^ 61 + 2 ^ 61) (axis_by_axis f a b)
    → words (axis_by_axis f (words a) (words b)) ≡ axis_by_axis f a b
axes_are f a b h k both =
    let a_fit = fit_axes a (2 ^ 61) (omega arith) h in
    let b_fit = fit_axes b (2 ^ 61) (omega arith) k in
    let fit = fit_axes (axis_by_axis f a b) (2 ^ 61 + 2 ^ 61) (omega arith) both in
    λ i. record {
      x = axis_is f a.x b.x a_fit.x b_fit.x fit.x i;
      y = axis_is f a.y b.y a_fit.y b_fit.y fit.y i;
      z = axis_is f a.z b.z a_fit.z b_fit.z fit.z i;
    }

-- the sum of two axes fits 64 bits
pub sum_fits : (a b : ℤ) → unsigned_abs a ≤ 2 ^ 61 → unsigned_abs b ≤ 2 ^ 61 → FitsSigned w64 (word a +ℤ word b)
sum_fits a b h k =
    let a_fits = fits a (omega (arith, h)) in
    let b_fits = fits b (omega (arith, k)) in
    simp to_z-of_z (fits (a +ℤ b) (omega (arith, size-add a b, h, k)))

pub plus_within : (a b : Vec3) (m n : ℕ) → Within m a → Within n b → Within (m + n) (plus a b)
plus_within a b m n h k = record {
  x = omega (arith, size-add a.x b.x, h.x, k.x);
  y = omega (arith, size-add a.y b.y, h.y, k.y);
  z = omega (arith, size-add a.z b.z, h.z, k.z);
}

pub minus_within : (a b : Vec3) (m n : ℕ) → Within m a → Within n b → Within (m + n) (minus a b)
minus_within a b m n h k = record {
  x = omega (arith, size-sub a.x b.x, h.x, k.x);
  y = omega (arith, size-sub a.y b.y, h.y, k.y);
  z = omega (arith, size-sub a.z b.z, h.z, k.z);
}

-- sums and differences as they come to stand in 64 bits
pub plus_is : (a b : Vec3) → Within (2 ^ 61) a → Within (2 ^ 61) b → words (plus (words a) (words b)) ≡ plus a b
plus_is a b h k = axes_are (λ p q. p +ℤ q) a b h k (plus_within a b (2 ^ 61) (2 ^ 61) h k)

pub minus_is : (a b : Vec3) → Within (2 ^ 61) a → Within (2 ^ 61) b → words (minus (words a) (words b)) ≡ minus a b
minus_is a b h k = axes_are (λ p q. p -ℤ q) a b h k (minus_within a b (2 ^ 61) (2 ^ 61) h k)

pub opposite_within : (v : Vec3) (n : ℕ) → Within n v → Within n (opposite v)
opposite_within v n h = record {
  x = omega (arith, size-neg v.x, h.x);
  y = omega (arith, size-neg v.y, h.y);
  z = omega (arith, size-neg v.z, h.z);
}

pub plus_zero : (a : ℤ) → a +ℤ pos 0 ≡ a
plus_zero a = omega (arith, ints)

-- the vector 0 adds nothing
pub plus_nothing : (v : Vec3) → plus v zero_vector ≡ v
plus_nothing v = λ i. record { x = plus_zero v.x i; y = plus_zero v.y i; z = plus_zero v.z i }

less_itself : (a : ℤ) → a -ℤ a ≡ pos 0
less_itself a = omega (arith, ints)

-- a vector less itself
pub minus_itself : (v : Vec3) → minus v v ≡ zero_vector
minus_itself v = λ i. record { x = less_itself v.x i; y = less_itself v.y i; z = less_itself v.z i }

zero_minus : (a : ℤ) → pos 0 -ℤ a ≡ neg_ℤ a
zero_minus a = omega (arith, ints)

-- nothing less a vector is its opposite
pub nothing_minus : (v : Vec3) → minus zero_vector v ≡ opposite v
nothing_minus v = λ i. record { x = zero_minus v.x i; y = zero_minus v.y i; z = zero_minus v.z i }

-- a part of an axis is at most the axis, and in any case at most the product
pub scaled_axis_size : (axis part whole : ℤ) (n : ℕ) → pos 0 <ℤ whole → unsigned_abs part ≤ unsigned_abs whole → unsigned_abs axis ≤ n
    → unsigned_abs (rdiv (axis *ℤ part) whole) ≤ n
scaled_axis_size axis part whole n low less h = size-rdiv (axis *ℤ part) whole n (positive_above whole low)
    (size-mul axis part n (unsigned_abs whole) h less)

pub scaled_axis_fits : (axis part whole : ℤ) → pos 0 <ℤ whole → unsigned_abs (axis *ℤ part) ≤ 2 ^ 61
    → unsigned_abs (rdiv (axis *ℤ part) whole) ≤ 2 ^ 61
scaled_axis_fits axis part whole low product =
    let some = positive_above whole low in
    size-rdiv (axis *ℤ part) whole (2 ^ 61) some (omega (arith, product, some))

pub times_within : (n : ℤ) (v : Vec3) (b c d : ℕ) → Within b v → unsigned_abs n ≤ c → b * c ≤ d → Within d (times n v)
times_within n v b c d h k l = record {
  x = omega (arith, size-mul v.x n b c h.x k, l);
  y = omega (arith, size-mul v.y n b c h.y k, l);
  z = omega (arith, size-mul v.z n b c h.z k, l);
}

-- the squares p, q and r of the axes of a vector up to 2^30: their sums in 64 bits
pub record SquaresAdd (v : Vec3) (p q r : ℤ) : Type 0 where
  pub two_fit : FitsSigned w64 (word p +ℤ word q)
  pub all_fit : FitsSigned w64 (word (word p +ℤ word q) +ℤ word r)
  pub sum : word (word (word p +ℤ word q) +ℤ word r) ≡ pos (squared_length v)

pub squares_add : (v : Vec3) (p q r : ℤ) → Within (2 ^ 30) v → p ≡ pos (unsigned_abs v.x * unsigned_abs v.x)
    → q ≡ pos (unsigned_abs v.y * unsigned_abs v.y) → r ≡ pos (unsigned_abs v.z * unsigned_abs v.z) → SquaresAdd v p q r
squares_add v p q r h x y z =
    let x_fits = fits (pos (unsigned_abs v.x * unsigned_abs v.x)) (omega (arith, mul-le-mul h.x h.x)) in
    let y_fits = fits (pos (unsigned_abs v.y * unsigned_abs v.y)) (omega (arith, mul-le-mul h.y h.y)) in
    let z_fits = fits (pos (unsigned_abs v.z * unsigned_abs v.z)) (omega (arith, mul-le-mul h.z h.z)) in
    let two_fit = fits (pos (unsigned_abs v.x * unsigned_abs v.x + unsigned_abs v.y * unsigned_abs v.y))
    (omega (arith, mul-le-mul h.x h.x, mul-le-mul h.y h.y)) in
    let all_fit = fits (pos (squared_length v)) (omega (arith, squared_length_le v (2 ^ 30) h)) in
    record {
      two_fit = rw (x, y) (simp to_z-of_z two_fit);
      all_fit = rw (x, y, z) (simp to_z-of_z all_fit);
      sum = rw (x, y, z) (simp to_z-of_z);
    }
