-- How far a plane and a sphere move a place.
use Rattle.std.proofs.Common.{◌≡◌, sym, ap, ◌∙◌, ℕ, ◌+◌, ◌*◌, ◌<◌, ◌≤◌, ◌^◌, true, false, ◌==◌, arith, ℤ, pos, negsuc, ◌+ℤ◌, ◌-ℤ◌}
use Rattle.std.proofs.Common.{◌*ℤ◌, ◌<ℤ◌, ◌≤ℤ◌, int_lt, unsigned_abs, inl, inr, ◌⊎◌, Some, None, ltb}
use Rattle.std.proofs.Common.{w64, FitsSigned, subst}
use Rattle.std.proofs.lemmas.Int.{ints, to_z-of_z}
use Rattle.std.proofs.lemmas.Bool.{cond-true, cond-false, cases_lt, lt-ltb, le-ltb, ne_eqb}
use Rattle.std.proofs.Math.Nat.{mul-le-mul, lt_of_lt_of_le}
use Rattle.pbd_num.specs.declared.Vec3.{Vec3}
use Rattle.pbd_num.specs.Rounding.{rdiv, root}
use Rattle.pbd_num.specs.Vectors.{Within, on_axes, plus, minus, scaled, dot, squared_length, length_of}
use Rattle.pbd_world.specs.declared.parts.Plane.{Plane}
use Rattle.pbd_world.specs.declared.parts.Sphere.{Sphere}
use Rattle.pbd_world.specs.Shapes.{plane_shape, onto_sphere}
use Rattle.pbd_num.proofs.Sizes.{fits, size-add, size-sub, size-mul, positive_above}
use Rattle.pbd_num.proofs.VectorSizes.{word}
use Rattle.pbd_num.proofs.RoundingLemmas.{size-rdiv, root-square, root-next}
use Rattle.pbd_num.proofs.Lengths.{squared_length_le, dot_square}

-- a plane's move on one axis
pub plane_move : (lack axis square : ℤ) → unsigned_abs lack ≤ 2 ^ 42 → unsigned_abs axis ≤ 2 ^ 10 → pos 0 <ℤ square
    → unsigned_abs (rdiv (lack *ℤ axis) square) ≤ 2 ^ 52
plane_move lack axis square h k p =
    let some = positive_above square p in
    size-rdiv (lack *ℤ axis) square (2 ^ 52) some (omega (arith, size-mul lack axis (2 ^ 42) (2 ^ 10) h k, some))

-- three products of a normal and a place: their sums in 64 bits
pub record ProductsAdd (p q r : ℤ) : Type 0 where
  pub all_fit : FitsSigned w64 (word (word p +ℤ word q) +ℤ word r)
  pub sum : word (word (word p +ℤ word q) +ℤ word r) ≡ p +ℤ q +ℤ r
  pub size : unsigned_abs (word (word (word p +ℤ word q) +ℤ word r)) ≤ 2 ^ 41

pub products_add : (p q r : ℤ) → unsigned_abs p ≤ 2 ^ 39 → unsigned_abs q ≤ 2 ^ 39 → unsigned_abs r ≤ 2 ^ 39 → ProductsAdd p q r
products_add p q r h k l =
    let p_fits = fits p (omega (arith, h)) in
    let q_fits = fits q (omega (arith, k)) in
    let r_fits = fits r (omega (arith, l)) in
    let two : unsigned_abs (p +ℤ q) ≤ 2 ^ 40 = omega (arith, size-add p q, h, k) in
    let all : unsigned_abs (p +ℤ q +ℤ r) ≤ 2 ^ 41 = omega (arith, size-add (p +ℤ q) r, two, l) in
    let two_fit = fits (p +ℤ q) (omega (arith, two)) in
    let all_fit = fits (p +ℤ q +ℤ r) (omega (arith, all)) in
    record { all_fit = simp to_z-of_z all_fit; sum = simp to_z-of_z; size = simp to_z-of_z all }

-- what a place lacks of a plane, by what its product with the normal came to
pub record Lacks (plane : Plane) (p : Vec3) (product : ℤ) : Type 0 where
  pub fits_signed : FitsSigned w64 (word plane.offset -ℤ word product)
  pub is : word (word plane.offset -ℤ word product) ≡ plane.offset -ℤ dot plane.normal p
  pub size : unsigned_abs (plane.offset -ℤ dot plane.normal p) ≤ 2 ^ 42

pub lacks : (plane : Plane) (p : Vec3) (product : ℤ) → unsigned_abs plane.offset ≤ 2 ^ 40 → unsigned_abs product ≤ 2 ^ 41
    → product ≡ dot plane.normal p → Lacks plane p product
lacks plane p product h k is =
    let offset_fits = fits plane.offset (omega (arith, h)) in
    let product_fits = fits product (omega (arith, k)) in
    let size : unsigned_abs (plane.offset -ℤ product) ≤ 2 ^ 42 = omega (arith, size-sub plane.offset product, h, k) in
    let lack_fits = fits (plane.offset -ℤ product) (omega (arith, size)) in
    let lack : word (word plane.offset -ℤ word product) ≡ plane.offset -ℤ product = simp to_z-of_z in
    record {
      fits_signed = simp to_z-of_z lack_fits;
      is = lack ∙ ap (λ (n : ℤ). plane.offset -ℤ n) is;
      size = subst (λ (n : ℤ). unsigned_abs (plane.offset -ℤ n) ≤ 2 ^ 42) is size;
    }

pub square_low : (n : Vec3) → 0 < squared_length n → pos 0 <ℤ dot n n
square_low n h = rw (dot_square n) (omega (arith, ints))

pub square_high : (n : Vec3) → Within (2 ^ 10) n → unsigned_abs (dot n n) ≤ 2 ^ 40
square_high n h = rw (dot_square n) (omega (arith, squared_length_le n (2 ^ 10) h))

-- a place is in a sphere where the square of its distance is less than that of the radius
pub in_by_squares : (squared : ℕ) (radius : ℤ) → pos 0 ≤ℤ radius
    → int_lt (pos squared) (pos (unsigned_abs radius * unsigned_abs radius)) ≡ int_lt (pos (root squared)) radius
in_by_squares squared (negsuc r) h = absurd (omega (arith, ints))
in_by_squares squared (pos r) h = by_roots (cases_lt (root squared) r)
  where
    by_roots : (root squared < r) ⊎ (r ≤ root squared) → ltb squared (r * r) ≡ ltb (root squared) r
    by_roots (inl p) = lt-ltb squared (r * r) (lt_of_lt_of_le (root-next squared) (mul-le-mul (next p) (next p)))
        ∙ sym (lt-ltb (root squared) r p)
      where
        next : root squared < r → root squared + 1 ≤ r
        next q = omega arith
    by_roots (inr p) = le-ltb squared (r * r) (omega (arith, mul-le-mul p p, root-square squared)) ∙ sym (le-ltb (root squared) r p)

-- ---- what a plane gives

pub plane_touches : (plane : Plane) (p : Vec3) {lack square x y z : ℤ} → lack ≡ plane.offset -ℤ dot plane.normal p
    → square ≡ dot plane.normal plane.normal → int_lt (pos 0) lack ≡ true → x ≡ p.x +ℤ rdiv (lack *ℤ plane.normal.x) square
    → y ≡ p.y +ℤ rdiv (lack *ℤ plane.normal.y) square → z ≡ p.z +ℤ rdiv (lack *ℤ plane.normal.z) square
    → Some (record { x = x; y = y; z = z }) ≡ plane_shape plane p
unfolding plane_shape
plane_touches plane p {lack} {square} {x} {y} {z} el es behind ex ey ez =
    let n = plane.normal in
    let lacks = plane.offset -ℤ dot n p in
    let test : int_lt (pos 0) lacks ≡ true = ap (int_lt (pos 0)) (sym el) ∙ behind in
    let to : Vec3 = plus p (on_axes (λ axis. rdiv (lacks *ℤ axis) (dot n n)) n) in
    let same : record { x = x; y = y; z = z } ≡ to = λ i. record {
      x = (ex ∙ (λ j. p.x +ℤ rdiv (el j *ℤ n.x) (es j))) i;
      y = (ey ∙ (λ j. p.y +ℤ rdiv (el j *ℤ n.y) (es j))) i;
      z = (ez ∙ (λ j. p.z +ℤ rdiv (el j *ℤ n.z) (es j))) i;
    } in
    ap {A = Vec3} Some same ∙ sym (cond-true (int_lt (pos 0) lacks) (Some to) None test)

pub plane_clears : (plane : Plane) (p : Vec3) {lack : ℤ} → lack ≡ plane.offset -ℤ dot plane.normal p → int_lt (pos 0) lack ≡ false
    → None ≡ plane_shape plane p
unfolding plane_shape
plane_clears plane p el clear = sym (cond-false (int_lt (pos 0) (plane.offset -ℤ dot plane.normal p)) _ None
    (ap (int_lt (pos 0)) (sym el) ∙ clear))

-- a place away from the centre comes onto the sphere along its way from there
pub onto_away : (sphere : Sphere) (p way moved : Vec3) (length : ℤ) → way ≡ minus p sphere.centre → length ≡ pos (length_of way)
    → 0 < unsigned_abs length → moved ≡ scaled sphere.radius length way → plus sphere.centre moved ≡ onto_sphere sphere p
onto_away sphere p way moved length way_is length_is apart moved_is =
    let d = minus p sphere.centre in
    let far : 0 < length_of d = omega (arith, ap unsigned_abs length_is, ap length_of way_is, apart) in
    ap (plus sphere.centre) (moved_is ∙ ap (λ (l : ℤ). scaled sphere.radius l way) length_is
    ∙ ap (λ (v : Vec3). scaled sphere.radius (pos (length_of v)) v) way_is)
    ∙ sym (cond-false (length_of d == 0) _ _ (ne_eqb (length_of d) 0 (λ (e : length_of d ≡ 0). absurd (omega arith))))
