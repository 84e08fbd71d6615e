-- The generated scene: its cloth fits, and its particles set off one after another.
use Rattle.std.proofs.Common.{◌≡◌, ◌∙◌, sym, ap, refl, ℕ, zero, suc, ◌+◌, ◌*◌, ◌<◌, ◌≤◌, ◌^◌, Bool, true, List, [], ◌∷◌, ◌++◌, length}
use Rattle.std.proofs.Common.{arith, ℤ, pos, ◌+ℤ◌, ◌*ℤ◌, ◌≤ℤ◌, unsigned_abs, append_assoc, append-nil}
use Rattle.std.specs.Prelude.{IsTrue, nat_le}
use Rattle.std.specs.List.{list_all}
use Rattle.std.proofs.Math.Nat.{mul-le-mul}
use Rattle.std.proofs.lemmas.Int.{ints}
use Rattle.std.proofs.lemmas.Bool.{and_parts}
use Rattle.std.proofs.lemmas.Bool.Decides.{nat_tests}
use Rattle.rand_pcg.specs.Lcg.{Lcg}
use Rattle.rand_pcg.specs.Pcg.{pcg32}
use Rattle.pbd_num.specs.Vectors.{Within, is_within}
use Rattle.pbd_num.proofs.Ranges.{within_facts}
use Rattle.pbd_world.specs.declared.parts.Particle.{Particle}
use Rattle.pbd_mesh.specs.Numbered.{all_below}
use Rattle.pbd_mesh.proofs.Meshes.{cloth_size}
use Rattle.pbd_mesh.proofs.Every.{every_concatenated, every_one, every_test}
use Rattle.pbd_mesh.specs.Cloth.{cloth_particles, cloth_place, cloth_fits, cloth_in_ranges, cloth_vectors_fit, cloth_counts_fit}
use Rattle.pbd_mesh.specs.Cloth.{cloth_settings_fit, cloth_tears_fit, cloth_is_inside}
use Rattle.pbd_outcome.specs.Generated.{all_set_off, after_three, is_hung, is_near, level_cloth, set_off, speed, vector, velocity_of}

pub positive : pos 0 ≤ℤ pos (2 ^ 29)
positive = omega (arith, ints)

-- ---- the cloth fits

all_from : (n : ℕ) (f : ℕ → Bool) → ((i : ℕ) → i < n → IsTrue (f i)) → IsTrue (all_below n f)
unfolding all_below
all_from zero f h = refl
all_from (suc n) f h = rw (all_from n f (λ i w. h i (omega arith)), h n (omega arith)) refl

-- the place on an axis is a sum of natural numbers, and not far
close_axis : (o n a m b : ℕ) → o ≤ 65536 → n ≤ 128 → a ≤ 6554 → m ≤ 128 → b ≤ 6554
    → unsigned_abs ((pos o +ℤ pos n *ℤ pos a) +ℤ pos m *ℤ pos b) ≤ 2 ^ 21
close_axis o n a m b lo ln la lm lb =
    let p : n * a ≤ 128 * 6554 = mul-le-mul ln la in
    let q : m * b ≤ 128 * 6554 = mul-le-mul lm lb in
    let e : unsigned_abs ((pos o +ℤ pos n *ℤ pos a) +ℤ pos m *ℤ pos b) ≡ (o + n * a) + m * b = refl in
    omega (arith, e, p, q, lo)

pub close_place : (size r c : ℕ) → r ≤ 128 → c ≤ 128 → Within (2 ^ 21) (cloth_place (level_cloth size) r c)
unfolding cloth_place
close_place size r c lr lc = record {
  x = close_axis 0 c 6554 r 0 (omega arith) lc (omega arith) lr (omega arith);
  y = close_axis 65536 c 0 r 0 (omega arith) lc (omega arith) lr (omega arith);
  z = close_axis 0 c 0 r 6554 (omega arith) lc (omega arith) lr (omega arith);
}

near_place : (size r c : ℕ) → r ≤ 128 → c ≤ 128 → Within (2 ^ 29) (cloth_place (level_cloth size) r c)
near_place size r c lr lc =
    let close = close_place size r c lr lc in
    record { x = omega (arith, close.x); y = omega (arith, close.y); z = omega (arith, close.z) }

pub level_fits : (size : ℕ) → 2 ≤ size → size ≤ 128 → IsTrue (cloth_fits (pos (2 ^ 29)) (level_cloth size))
unfolding cloth_fits cloth_in_ranges cloth_vectors_fit cloth_counts_fit cloth_settings_fit cloth_tears_fit cloth_is_inside
level_fits size low high =
    let one : nat_le 1 size ≡ true = grind (arith, nat_tests) in
    let two : nat_le size 256 ≡ true = grind (arith, nat_tests) in
    let inside : all_below size (λ r. all_below size (λ c. is_within (pos (2 ^ 29)) (cloth_place (level_cloth size) r c))) ≡ true =
    all_from size _ (λ r wr. all_from size _ (λ c wc. (within_facts (pos (2 ^ 29)) (cloth_place (level_cloth size) r c) positive).1
    (near_place size r c (omega (arith, wr)) (omega (arith, wc))))) in
    rw (one, two, inside) refl

pub square_few : (size : ℕ) → size ≤ 128 → size * size ≤ 65536
square_few size high = let p : size * size ≤ 128 * 128 = mul-le-mul high high in omega (arith, p)

-- ---- the particles set off

pub near_head : (rest later : List Particle) (p : Particle) → rest ≡ p ∷ later → IsTrue (list_all is_near rest) → Within (2 ^ 29) p.at
near_head rest later p is near =
    let t : IsTrue (list_all is_near (p ∷ later)) = rw is at near in
    (within_facts (pos (2 ^ 29)) p.at positive).0 (and_parts (is_near p) (list_all is_near later) t).0

-- the particles so far, and those that are left, are all of them
pub record SetOff (size : ℕ) (first : Lcg) (all done : List Particle) (n : ℕ) (g : Lcg) (left : List Particle) : Type 0 where
  pub near : IsTrue (list_all is_near left)
  pub count : n + length left ≡ length all
  pub whole : done ++ all_set_off size n g left ≡ all_set_off size 0 first all

pub off_next : (size : ℕ) (first : Lcg) (all done list : List Particle) (n : ℕ) (g h : Lcg) (p : Particle) (rest later : List Particle)
    → SetOff size first all done n g rest → rest ≡ p ∷ later → list ≡ done ++ set_off (is_hung size n) (velocity_of g) p ∷ []
    → h ≡ after_three g → SetOff size first all list (n + 1) h later
unfolding all_set_off
off_next size first all done list n g h p rest later so_far is grown on =
    let near : IsTrue (list_all is_near (p ∷ later)) = rw is at so_far.near in
    let whole : done ++ all_set_off size n g (p ∷ later) ≡ all_set_off size 0 first all = rw is at so_far.whole in
    record {
      near = (and_parts (is_near p) (list_all is_near later) near).1;
      count = omega (arith, so_far.count, ap length is);
      whole = rw (grown, on) (append_assoc done (set_off (is_hung size n) (velocity_of g) p ∷ [])
          (all_set_off size (n + 1) (after_three g) later) ∙ whole);
    }

pub off_all : (size : ℕ) (first : Lcg) (all done : List Particle) (n : ℕ) (g : Lcg) (rest : List Particle)
    → SetOff size first all done n g rest → length rest ≡ 0 → done ≡ all_set_off size 0 first all
unfolding all_set_off
off_all size first all done n g [] so_far none = sym (append-nil done) ∙ so_far.whole
off_all size first all done n g (p ∷ ps) so_far none = absurd (omega (arith, none))

-- three words, one after another, are a velocity
pub three_words : (g a b c : Lcg) (u v w : ℕ) (x y z : ℤ) → (u, a) ≡ pcg32 g → (v, b) ≡ pcg32 a → (w, c) ≡ pcg32 b → x ≡ speed u
    → y ≡ speed v → z ≡ speed w → vector x y z ≡ velocity_of g
three_words g a b c u v w x y z one two three ex ey ez =
    let first : a ≡ (pcg32 g).1 = ap (λ (p : ℕ × Lcg). p.1) one in
    let second : b ≡ (pcg32 (pcg32 g).1).1 = ap (λ (p : ℕ × Lcg). p.1) two ∙ ap (λ (s : Lcg). (pcg32 s).1) first in
    let eu : u ≡ (pcg32 g).0 = ap (λ (p : ℕ × Lcg). p.0) one in
    let ev : v ≡ (pcg32 (pcg32 g).1).0 = ap (λ (p : ℕ × Lcg). p.0) two ∙ ap (λ (s : Lcg). (pcg32 s).0) first in
    let ew : w ≡ (pcg32 (pcg32 (pcg32 g).1).1).0 = ap (λ (p : ℕ × Lcg). p.0) three ∙ ap (λ (s : Lcg). (pcg32 s).0) second in
    ap (λ (t : ℤ). vector t y z) (ex ∙ ap speed eu) ∙ ap (λ (t : ℤ). vector (speed (pcg32 g).0) t z) (ey ∙ ap speed ev)
    ∙ ap (λ (t : ℤ). vector (speed (pcg32 g).0) (speed (pcg32 (pcg32 g).1).0) t) (ez ∙ ap speed ew)

-- the cloth's particles are near
pub all_near : (size : ℕ) → size ≤ 128 → IsTrue (list_all is_near (cloth_particles (level_cloth size)))
unfolding cloth_particles
all_near size high =
    every_test is_near _ (every_concatenated (λ (p : Particle). IsTrue (is_near p)) size _ (λ r wr.
    every_concatenated (λ (p : Particle). IsTrue (is_near p)) size _ (λ c wc.
    every_one (λ (p : Particle). IsTrue (is_near p)) _ ((within_facts (pos (2 ^ 29)) (cloth_place (level_cloth size) r c) positive).1
    (near_place size r c (omega (arith, wr)) (omega (arith, wc)))))))

-- and they are few
pub few_particles : (size : ℕ) → size ≤ 128 → length (cloth_particles (level_cloth size)) ≤ 65536
few_particles size high = omega (arith, cloth_size (level_cloth size), square_few size high)
