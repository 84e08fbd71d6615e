-- Where a particle comes to on one axis, in 64 bits: parts of 1,024 of a product, by numbers that are raised above 0, and sums.
use Rattle.std.proofs.Common.{◌≡◌, ℕ, suc, ◌+◌, ◌-◌, ◌*◌, ◌/◌, ◌<◌, ◌≤◌, ◌^◌, ap, ◌∙◌, arith, pos, negsuc, ℤ, ◌+ℤ◌, ◌-ℤ◌, ◌*ℤ◌, ◌≤ℤ◌}
use Rattle.std.proofs.Common.{unsigned_abs, Bool, true, false, cond, to_z, of_z, w64}
use Rattle.std.proofs.lemmas.Int.{ints, to_z-of_z}
use Rattle.std.proofs.Math.Nat.{mul-le-mul}
use Rattle.pbd_num.specs.Rounding.{rdiv}
use Rattle.pbd_num.proofs.Sizes.{fits, size-add, size-mul, size-sub, size_below}
use Rattle.pbd_num.proofs.RoundingLemmas.{size-rdiv}
use Rattle.pbd_store.specs.Flying.{loss_at, flown_at, pull_at}

-- a number as 64 bits hold it
abbrev held : ℤ → ℤ
held z = to_z w64 (of_z w64 z)

-- a number has its size where 64 bits hold it
pub held_size : (z : ℤ) (n : ℕ) → n < 2 ^ 63 → unsigned_abs z ≤ n → unsigned_abs (held z) ≤ n
held_size z n few h = let f = fits z (omega arith) in simp to_z-of_z h

-- a product of two numbers that are raised
pub raised_is : (s f : ℤ) (x y : ℕ) → pos x ≡ s +ℤ pos 2147483648 → pos y ≡ f +ℤ pos 1024
    → pos (x * y) ≡ s *ℤ f +ℤ pos 1024 *ℤ s +ℤ pos 2147483648 *ℤ f +ℤ pos 2199023255552
raised_is (pos a) (pos b) x y d e =
    let p : x ≡ a + 2147483648 = omega (arith, ints, d) in
    let q : y ≡ b + 1024 = omega (arith, ints, e) in
    let product : x * y ≡ (a + 2147483648) * (b + 1024) = λ i. p i * q i in
    omega (arith, ints, product)
raised_is (negsuc a) (pos b) x y d e =
    let p : x + suc a ≡ 2147483648 = omega (arith, ints, d) in
    let q : y ≡ b + 1024 = omega (arith, ints, e) in
    let first : (x + suc a) * y ≡ 2147483648 * y = ap (λ z. z * y) p in
    let second : suc a * y ≡ suc a * (b + 1024) = ap (λ z. suc a * z) q in
    omega (arith, ints, first, second, q)
raised_is (pos a) (negsuc b) x y d e =
    let p : x ≡ a + 2147483648 = omega (arith, ints, d) in
    let q : y + suc b ≡ 1024 = omega (arith, ints, e) in
    let first : x * (y + suc b) ≡ x * 1024 = ap (λ z. x * z) q in
    let second : x * suc b ≡ (a + 2147483648) * suc b = ap (λ z. z * suc b) p in
    omega (arith, ints, first, second, p)
raised_is (negsuc a) (negsuc b) x y d e =
    let p : x + suc a ≡ 2147483648 = omega (arith, ints, d) in
    let q : y + suc b ≡ 1024 = omega (arith, ints, e) in
    let first : (x + suc a) * y ≡ 2147483648 * y = ap (λ z. z * y) p in
    let second : suc a * (y + suc b) ≡ suc a * 1024 = ap (λ z. suc a * z) q in
    omega (arith, ints, first, second, q)

pub product_size : (a b : ℕ) → a < 2 ^ 32 → b ≤ 2048 → a * b < 2 ^ 45
product_size a b h k = let p : a ≤ 2 ^ 32 - 1 = omega arith in omega (arith, mul-le-mul p k)

-- the number from which both raised parts were taken away is the product, raised above 0
pub record Lowered (s f whole : ℤ) : Type 0 where
  pub is : held (held whole -ℤ held (pos 1024 *ℤ held s)) -ℤ held (pos 2147483648 *ℤ held f) ≡ s *ℤ f +ℤ pos 2199023255552
  pub held_is : held (held (held whole -ℤ held (pos 1024 *ℤ held s)) -ℤ held (pos 2147483648 *ℤ held f)) ≡ s *ℤ f +ℤ pos 2199023255552
  pub low : pos 0 ≤ℤ (s *ℤ f +ℤ pos 2199023255552)
  pub high : unsigned_abs (s *ℤ f +ℤ pos 2199023255552) ≤ 2 ^ 42

pub lowered : (s f whole : ℤ) → unsigned_abs s ≤ 2 ^ 30 → unsigned_abs f ≤ 1024 → unsigned_abs whole < 2 ^ 45
    → whole ≡ held s *ℤ held f +ℤ pos 1024 *ℤ held s +ℤ pos 2147483648 *ℤ held f +ℤ pos 2199023255552
    → Lowered s f whole
lowered s f whole hs hf size e =
    let fs = fits s (omega (arith, hs)) in
    let ff = fits f (omega (arith, hf)) in
    let fw = fits whole (omega (arith, size)) in
    let value = simp to_z-of_z at e in
    let some : unsigned_abs (pos 1024 *ℤ s) ≤ 2 ^ 40 = omega (arith, size-mul (pos 1024) s 1024 (2 ^ 30) (omega arith) hs) in
    let more : unsigned_abs (pos 2147483648 *ℤ f) ≤ 2 ^ 41 = omega (arith, size-mul (pos 2147483648) f 2147483648 1024 (omega arith) hf) in
    let product : unsigned_abs (s *ℤ f) ≤ 2 ^ 40 = omega (arith, size-mul s f (2 ^ 30) 1024 hs hf) in
    let f1 = fits (pos 1024 *ℤ s) (omega (arith, some)) in
    let f2 = fits (pos 2147483648 *ℤ f) (omega (arith, more)) in
    let f3 = fits (whole -ℤ pos 1024 *ℤ s) (omega (arith, size-sub whole (pos 1024 *ℤ s), size, some)) in
    let high : unsigned_abs (s *ℤ f +ℤ pos 2199023255552) ≤ 2 ^ 42 = omega (arith, size-add (s *ℤ f) (pos 2199023255552), product) in
    let f4 = fits (s *ℤ f +ℤ pos 2199023255552) (omega (arith, high)) in
    let is : whole -ℤ pos 1024 *ℤ s -ℤ pos 2147483648 *ℤ f ≡ s *ℤ f +ℤ pos 2199023255552 = omega (arith, ints, value) in
    record {
      is = simp to_z-of_z is;
      held_is = simp (to_z-of_z, is);
      low = omega (arith, ints, product, size_below (s *ℤ f));
      high = high;
    }

-- a rounded part of a number, of the number that is raised
pub part_of_raised : (p : ℤ) (n : ℕ) → pos n ≡ p +ℤ pos 2199023255552 → unsigned_abs p ≤ 2 ^ 40
    → rdiv p (pos 1024) ≡ pos ((n + (511 + n / 2199023255552)) / 1024) -ℤ pos 2147483648
unfolding rdiv
part_of_raised (pos a) n e h = omega (arith, ints)
part_of_raised (negsuc a) n e h = omega (arith, ints)

-- what damping takes of the way of a particle that flies
pub loss_is : (flies : Bool) (damping at before way : ℤ) → way ≡ cond flies (at -ℤ before) (pos 0)
    → rdiv (way *ℤ damping) (pos 1024) ≡ loss_at damping flies at before
unfolding rdiv
loss_is true damping at before way e = ap (λ (z : ℤ). rdiv (z *ℤ damping) (pos 1024)) e
loss_is false damping at before way e =
    let none : pos 0 *ℤ damping ≡ pos 0 = omega (arith, ints) in
    ap (λ (z : ℤ). rdiv (z *ℤ damping) (pos 1024)) e ∙ ap (λ (z : ℤ). rdiv z (pos 1024)) none

pub way_part_size : (way damping : ℤ) → unsigned_abs way ≤ 2 ^ 30 → unsigned_abs damping ≤ 1024
    → unsigned_abs (rdiv (way *ℤ damping) (pos 1024)) ≤ 2 ^ 30
way_part_size way damping h k = size-rdiv (way *ℤ damping) (pos 1024) (2 ^ 30) (omega arith)
    (omega (arith, size-mul way damping (2 ^ 30) 1024 h k))

-- where a particle comes to
pub flown_is : (flies : Bool) (damping gravity at before way loss pull : ℤ) → way ≡ cond flies (at -ℤ before) (pos 0)
    → loss ≡ loss_at damping flies at before → pull ≡ pull_at gravity flies
    → at +ℤ (way -ℤ loss) +ℤ pull ≡ flown_at damping gravity flies at before
flown_is true damping gravity at before way loss pull w l p = λ i. at +ℤ (w i -ℤ l i) +ℤ p i
flown_is false damping gravity at before way loss pull w l p = omega (arith, ints, w, l, p)

-- the sum has its value where 64 bits hold each number of it
pub flown_held : (at way loss pull : ℤ) → unsigned_abs at ≤ 2 ^ 29 → unsigned_abs way ≤ 2 ^ 30 → unsigned_abs loss ≤ 2 ^ 30
    → unsigned_abs pull ≤ 2 ^ 29
    → held (held (held at +ℤ held (held way -ℤ held loss)) +ℤ held pull) ≡ at +ℤ (way -ℤ loss) +ℤ pull
flown_held at way loss pull ha hw hl hp =
    let fa = fits at (omega (arith, ha)) in
    let fw = fits way (omega (arith, hw)) in
    let fl = fits loss (omega (arith, hl)) in
    let fp = fits pull (omega (arith, hp)) in
    let rest : unsigned_abs (way -ℤ loss) ≤ 2 ^ 31 = omega (arith, size-sub way loss, hw, hl) in
    let there : unsigned_abs (at +ℤ (way -ℤ loss)) ≤ 2 ^ 31 + 2 ^ 29 = omega (arith, size-add at (way -ℤ loss), rest, ha) in
    let fr = fits (way -ℤ loss) (omega (arith, rest)) in
    let ft = fits (at +ℤ (way -ℤ loss)) (omega (arith, there)) in
    let to = fits (at +ℤ (way -ℤ loss) +ℤ pull) (omega (arith, size-add (at +ℤ (way -ℤ loss)) pull, there, hp)) in
    simp to_z-of_z
