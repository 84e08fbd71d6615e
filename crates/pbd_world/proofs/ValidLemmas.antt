-- Validity, as the tests of single parts find it.
use Rattle.std.proofs.Common.{◌≡◌, refl, sym, ap, ◌∙◌, ℕ, zero, suc, ◌+◌, ◌*◌, ◌<◌, ◌≤◌, Bool, true, false, ◌&&◌, List, [], ◌∷◌, length}
use Rattle.std.proofs.Common.{get_or, drop, drop-cons, arith, ℤ, pos, ◌+ℤ◌, ◌-ℤ◌, ◌≤ℤ◌, unsigned_abs}
use Rattle.std.specs.Prelude.{IsTrue, nat_le, nat_lt, int_le}
use Rattle.std.specs.List.{list_all}
use Rattle.std.proofs.lemmas.Int.{ints}
use Rattle.std.proofs.lemmas.Bool.{and_parts, and_from, leb-true, false≢true}
use Rattle.std.proofs.lemmas.Bool.Decides.{nat_tests, Decides-int_eq}
use Rattle.std.specs.Ordering.{int_eq}
use Rattle.pbd_num.specs.declared.Vec3.{Vec3}
use Rattle.pbd_num.specs.Vectors.{is_axis_within, is_within, on_axes, plus, minus, squared_length}
use Rattle.pbd_world.specs.declared.parts.Particle.{Particle}
use Rattle.pbd_world.specs.declared.parts.Key.{Key}
use Rattle.pbd_world.specs.declared.parts.Sphere.{Sphere}
use Rattle.pbd_world.specs.Valid.{is_next_key, are_valid_keys, is_at_rest}
use Rattle.pbd_world.specs.Shapes.{is_reach_within, is_valid_sphere}

-- two tests of which each follows from the other
pub same_test : (a b : Bool) → (IsTrue a → IsTrue b) → (IsTrue b → IsTrue a) → a ≡ b
same_test true true h k = refl
same_test true false h k = sym (h refl)
same_test false true h k = k refl
same_test false false h k = refl

-- ---- spheres

pub reach_test : (limit centre radius : ℤ) → pos 0 ≤ℤ limit → pos 1 ≤ℤ radius
    → (int_le (radius -ℤ limit) centre && int_le centre (limit -ℤ radius)) ≡ is_reach_within limit centre radius
unfolding is_reach_within
reach_test limit centre radius h k = grind (arith, ints, nat_tests)

swapped : (a b c d : Bool) → ((a && b) && (c && d)) ≡ ((a && c) && (b && d))
swapped true true c d = refl
swapped true false true d = refl
swapped true false false d = refl
swapped false b c d = refl

regrouped : (a b c d e f : Bool) → (((a && d) && (b && e)) && (c && f)) ≡ (((a && b) && c) && ((d && e) && f))
regrouped a b c d e f = ap (λ x. x && (c && f)) (swapped a d b e) ∙ swapped (a && b) (d && e) c f

pub sphere_test : (limit : ℤ) (sphere : Sphere) → pos 1 ≤ℤ sphere.radius
    → (is_reach_within limit sphere.centre.x sphere.radius && is_reach_within limit sphere.centre.y sphere.radius
    && is_reach_within limit sphere.centre.z sphere.radius) ≡ is_valid_sphere limit sphere
unfolding is_reach_within
sphere_test limit s h =
    let one : int_le (pos 1) s.radius ≡ true = grind (arith, ints, nat_tests) in
    regrouped (is_axis_within limit (s.centre.x +ℤ s.radius)) (is_axis_within limit (s.centre.y +ℤ s.radius))
    (is_axis_within limit (s.centre.z +ℤ s.radius)) (is_axis_within limit (s.centre.x -ℤ s.radius))
    (is_axis_within limit (s.centre.y -ℤ s.radius)) (is_axis_within limit (s.centre.z -ℤ s.radius))
    ∙ ap (λ x. x && is_within limit (plus s.centre (on_axes (λ axis. s.radius) s.centre))
    && is_within limit (minus s.centre (on_axes (λ axis. s.radius) s.centre))) (sym one)

-- ---- keys

-- keys that are valid, with steps that rise from `low` on
abbrev pub rising : ℤ → ℕ → List Key → Bool
rising limit low [] = true
rising limit low (key ∷ keys) = is_next_key limit low key && rising limit (key.step + 1) keys

above_all : (low high : ℕ) (keys : List Key) → low ≤ high → IsTrue (list_all (λ (k : Key). nat_lt high k.step) keys)
    → IsTrue (list_all (λ (k : Key). nat_le low k.step) keys)
above_all low high [] h t = refl
above_all low high (key ∷ keys) h t =
    let parts = and_parts (nat_lt high key.step) (list_all (λ (k : Key). nat_lt high k.step) keys) t in
    and_from _ _ (grind (arith, nat_tests)) (above_all low high keys h parts.1)

later_all : (step : ℕ) (keys : List Key) → list_all (λ (k : Key). nat_le (step + 1) k.step) keys
    ≡ list_all (λ (k : Key). nat_lt step k.step) keys
later_all step [] = refl
later_all step (key ∷ keys) =
    let here : nat_le (step + 1) key.step ≡ nat_lt step key.step = grind (arith, nat_tests) in
    rw (here, later_all step keys) refl

from_zero : (keys : List Key) → IsTrue (list_all (λ (k : Key). nat_le 0 k.step) keys)
from_zero [] = refl
from_zero (key ∷ keys) = and_from _ _ (grind (arith, nat_tests)) (from_zero keys)

key_tests : (l m i up lows rest : Bool) → (l ≡ true → up ≡ true → lows ≡ true)
    → (((l && m) && i) && (up && rest)) ≡ ((l && lows) && (((m && i) && up) && rest))
key_tests false m i up lows rest h = refl
key_tests true false i up true rest h = refl
key_tests true false i up false rest h = refl
key_tests true true false up true rest h = refl
key_tests true true false up false rest h = refl
key_tests true true true false true rest h = refl
key_tests true true true false false rest h = refl
key_tests true true true true true rest h = refl
key_tests true true true true false rest h = absurd (false≢true (h refl refl))

rise_is : (limit : ℤ) (low : ℕ) (keys : List Key) → rising limit low keys
    ≡ (list_all (λ (k : Key). nat_le low k.step) keys && are_valid_keys limit keys)
rise_is limit low [] = refl
rise_is limit low (key ∷ keys) =
    let up = list_all (λ (k : Key). nat_lt key.step k.step) keys in
    let lows = list_all (λ (k : Key). nat_le low k.step) keys in
    ap (λ x. is_next_key limit low key && x) (rise_is limit (key.step + 1) keys
    ∙ ap (λ x. x && are_valid_keys limit keys) (later_all key.step keys))
    ∙ key_tests (nat_le low key.step) (nat_le key.step 1000000) (is_within limit key.place) up lows (are_valid_keys limit keys)
    (λ h t. above_all low key.step keys (leb-true low key.step h) t)

pub rising_begins : (limit : ℤ) (keys : List Key) → are_valid_keys limit keys ≡ rising limit 0 keys
rising_begins limit keys = sym (rise_is limit 0 keys ∙ ap (λ x. x && are_valid_keys limit keys) (from_zero keys))

-- the first key that may not stand where it does
pub rising_stops : (limit : ℤ) (low : ℕ) (keys : List Key) (i : ℕ) (d : Key) → i < length keys
    → are_valid_keys limit keys ≡ rising limit low (drop i keys) → is_next_key limit low (get_or keys i d) ≡ false
    → false ≡ are_valid_keys limit keys
rising_stops limit low keys i d within is stops =
    sym (is ∙ ap (rising limit low) (drop-cons keys i d within)
    ∙ ap (λ x. x && rising limit ((get_or keys i d).step + 1) (drop (suc i) keys)) stops)

-- a key that may
pub rising_goes : (limit : ℤ) (low : ℕ) (keys : List Key) (i : ℕ) (d : Key) → i < length keys
    → are_valid_keys limit keys ≡ rising limit low (drop i keys) → is_next_key limit low (get_or keys i d) ≡ true
    → are_valid_keys limit keys ≡ rising limit ((get_or keys i d).step + 1) (drop (i + 1) keys)
rising_goes limit low keys i d within is goes =
    let next : suc i ≡ i + 1 = omega arith in
    is ∙ ap (rising limit low) (drop-cons keys i d within)
    ∙ ap (λ x. x && rising limit ((get_or keys i d).step + 1) (drop (suc i) keys)) goes
    ∙ ap (λ n. rising limit ((get_or keys i d).step + 1) (drop n keys)) next

-- ---- rest

none_squared : (n : ℕ) → n * n ≤ 0 → n ≡ 0
none_squared zero h = refl
none_squared (suc n) h = absurd (omega (arith, h))

same_axis : (a b : ℤ) → int_eq a b ≡ nat_le (unsigned_abs (a -ℤ b) * unsigned_abs (a -ℤ b)) 0
same_axis a b =
    same_test (int_eq a b) (nat_le (unsigned_abs (a -ℤ b) * unsigned_abs (a -ℤ b)) 0)
    (λ t. let e : a ≡ b = (Decides-int_eq a b).0 t in let none : unsigned_abs (a -ℤ b) ≡ 0 = omega (arith, ints, e) in rw none refl)
    (λ t. let none : unsigned_abs (a -ℤ b) ≡ 0 = none_squared _ (leb-true _ 0 t) in (Decides-int_eq a b).1 (omega (arith, ints, none)))

three_none : (x y z : ℕ) → nat_le (x + y + z) 0 ≡ (nat_le x 0 && (nat_le y 0 && nat_le z 0))
three_none x y z = grind (arith, nat_tests)

-- a particle is at rest where both its places agree on each axis
pub at_rest_test : (p : Particle) → (int_eq p.at.x p.before.x && (int_eq p.at.y p.before.y && int_eq p.at.z p.before.z)) ≡ is_at_rest p
at_rest_test p =
    rw (same_axis p.at.x p.before.x, same_axis p.at.y p.before.y, same_axis p.at.z p.before.z)
    (sym (three_none _ _ _))

no_way : (a : ℤ) → unsigned_abs (a -ℤ a) * unsigned_abs (a -ℤ a) ≡ 0
no_way a = let none : unsigned_abs (a -ℤ a) ≡ 0 = omega (arith, ints) in rw none refl

-- where both places are one
pub at_rest_from : (p : Particle) → p.at ≡ p.before → IsTrue (is_at_rest p)
at_rest_from p e = ap (λ (v : Vec3). nat_le (squared_length (minus v p.before)) 0) e
    ∙ rw (no_way p.before.x, no_way p.before.y, no_way p.before.z) refl
