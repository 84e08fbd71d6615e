-- The generated parts are valid.
use Rattle.std.proofs.Common.{◌≡◌, refl, ℕ, ◌+◌, ◌<◌, ◌≤◌, ◌^◌, ◌%◌, Bool, true, false, not, ◌&&◌, ◌||◌, List, [], ◌∷◌, length, arith, ℤ}
use Rattle.std.proofs.Common.{pos, ◌-ℤ◌, ◌≤ℤ◌, unsigned_abs}
use Rattle.std.specs.Prelude.{IsTrue, nat_le}
use Rattle.std.specs.List.{list_all, range_with_len}
use Rattle.std.proofs.Math.Nat.{mod-lt}
use Rattle.std.proofs.lemmas.Int.{ints}
use Rattle.std.proofs.lemmas.Bool.{and_parts, and_from, le-leb}
use Rattle.rand_pcg.specs.Lcg.{Lcg}
use Rattle.pbd_num.specs.declared.Vec3.{Vec3}
use Rattle.pbd_num.specs.Vectors.{Within, is_within, minus, plus, on_axes}
use Rattle.pbd_num.proofs.Ranges.{within_facts}
use Rattle.pbd_world.specs.declared.parts.Particle.{Particle}
use Rattle.pbd_world.specs.declared.parts.Link.{Link}
use Rattle.pbd_world.specs.Shapes.{is_valid_sphere}
use Rattle.pbd_world.specs.Valid.{are_valid_links, is_at_rest, is_valid, is_valid_link, is_valid_particle, is_well_formed, links_at}
use Rattle.pbd_world.proofs.TwiceLemmas.{range_all}
use Rattle.pbd_mesh.specs.Cloth.{cloth_links, cloth_particles, cloth_place}
use Rattle.pbd_mesh.specs.Meshes.{IsMesh, is_mesh_link}
use Rattle.pbd_mesh.proofs.Every.{every_from_test, every_concatenated, every_more, every_one, every_test}
use Rattle.pbd_mesh.proofs.Meshes.{cloth_mesh, cloth_size}
use Rattle.pbd_outcome.specs.Generated.{after_three, all_set_off, generated, is_hung, level_cloth, middle_sphere, set_off, speed}
use Rattle.pbd_outcome.specs.Generated.{velocity_of, words_of}
use Rattle.pbd_run.proofs.GeneratedLaws.{close_place, level_fits, positive, square_few}

-- ---- velocities

speed_small : (word : ℕ) → unsigned_abs (speed word) ≤ 64
speed_small word =
    let below : word % 129 < 129 = mod-lt word (omega arith) in
    omega (arith, ints, below)

velocity_small : (g : Lcg) → Within 64 (velocity_of g)
velocity_small g = record { x = speed_small _; y = speed_small _; z = speed_small _ }

-- ---- particles

-- not far, and with a weight
abbrev is_calm : Particle → Bool
is_calm p = is_within (pos (2 ^ 21)) p.at && nat_le 1 p.weight && nat_le p.weight 65535

-- valid, and at rest where it is held
abbrev is_settled : Particle → Bool
is_settled p = is_valid_particle (pos (2 ^ 29)) p && (not p.held || is_at_rest p)

middle : pos 0 ≤ℤ pos (2 ^ 21)
middle = omega (arith, ints)

all_calm : (size : ℕ) → size ≤ 128 → IsTrue (list_all is_calm (cloth_particles (level_cloth size)))
unfolding cloth_particles
all_calm size small =
    every_test is_calm _ (every_concatenated (λ (p : Particle). IsTrue (is_calm p)) size _ (λ r wr.
    every_concatenated (λ (p : Particle). IsTrue (is_calm p)) size _ (λ c wc.
    every_one (λ (p : Particle). IsTrue (is_calm p)) _ (calm_place size r c (omega (arith, wr)) (omega (arith, wc)))))) where
      calm_place : (size r c : ℕ) → r ≤ 128 → c ≤ 128 → IsTrue
          (is_within (pos (2 ^ 21)) (cloth_place (level_cloth size) r c) && nat_le 1 1 && nat_le 1 65535)
      calm_place size r c lr lc = rw ((within_facts (pos (2 ^ 21)) (cloth_place (level_cloth size) r c) middle).1
          (close_place size r c lr lc)) refl

difference : (a v : ℤ) → unsigned_abs a ≤ 2 ^ 21 → unsigned_abs v ≤ 64 → unsigned_abs (a -ℤ v) ≤ 2 ^ 29
difference a v la lv = grind (arith, ints)

still : (n : ℤ) → unsigned_abs (n -ℤ n) ≡ 0
still n = omega (arith, ints)

-- what a calm particle's tests say
record Calm (p : Particle) : Type 0 where
  close : Within (2 ^ 21) p.at
  at : IsTrue (is_within (pos (2 ^ 29)) p.at)
  some : IsTrue (nat_le 1 p.weight)
  most : IsTrue (nat_le p.weight 65535)

calm_facts : (p : Particle) → IsTrue (is_calm p) → Calm p
calm_facts p calm =
    let weights = and_parts (is_within (pos (2 ^ 21)) p.at && nat_le 1 p.weight) (nat_le p.weight 65535) calm in
    let place = and_parts (is_within (pos (2 ^ 21)) p.at) (nat_le 1 p.weight) weights.0 in
    let close : Within (2 ^ 21) p.at = (within_facts (pos (2 ^ 21)) p.at middle).0 place.0 in
    let at : IsTrue (is_within (pos (2 ^ 29)) p.at) = (within_facts (pos (2 ^ 29)) p.at positive).1
    (record { x = omega (arith, close.x); y = omega (arith, close.y); z = omega (arith, close.z) }) in
    record { close = close; at = at; some = place.1; most = weights.1 }

off_settled : (held : Bool) (v : Vec3) (p : Particle) → Within 64 v → Calm p → IsTrue (is_settled (set_off held v p))
off_settled true v p slow calm = rw (calm.at, calm.some, calm.most, still p.at.x, still p.at.y, still p.at.z) refl
off_settled false v p slow calm =
    let before : IsTrue (is_within (pos (2 ^ 29)) (minus p.at v)) =
    (within_facts (pos (2 ^ 29)) (minus p.at v) positive).1 (record {
      x = difference p.at.x v.x calm.close.x slow.x;
      y = difference p.at.y v.y calm.close.y slow.y;
      z = difference p.at.z v.z calm.close.z slow.z;
    }) in
    rw (calm.at, before, calm.some, calm.most) refl

all_settled : (size n : ℕ) (g : Lcg) (ps : List Particle) → IsTrue (list_all is_calm ps)
    → IsTrue (list_all is_settled (all_set_off size n g ps))
unfolding all_set_off
all_settled size n g [] calm = refl
all_settled size n g (p ∷ ps) calm =
    let parts = and_parts (is_calm p) (list_all is_calm ps) calm in
    and_from _ _ (off_settled (is_hung size n) (velocity_of g) p (velocity_small g) (calm_facts p parts.0))
    (all_settled size (n + 1) (after_three g) ps parts.1)

as_many : (size n : ℕ) (g : Lcg) (ps : List Particle) → length (all_set_off size n g ps) ≡ length ps
unfolding all_set_off
as_many size n g [] = refl
as_many size n g (p ∷ ps) = omega (arith, as_many size (n + 1) (after_three g) ps)

-- ---- links

mesh_link : (n : ℕ) (l : Link) → IsTrue (is_mesh_link (pos (2 ^ 29)) 0 n l) → IsTrue (l.live) × IsTrue (is_valid_link (pos (2 ^ 29)) n l)
mesh_link n l t =
    let valid = and_parts (l.live && nat_le 0 l.a && nat_le 0 l.b) (is_valid_link (pos (2 ^ 29)) n l) t in
    let ends = and_parts (l.live && nat_le 0 l.a) (nat_le 0 l.b) valid.0 in
    ((and_parts l.live (nat_le 0 l.a) ends.0).0, valid.1)

abbrev is_live : Link → Bool
is_live l = l.live

record Linked (n : ℕ) (ls : List Link) : Type 0 where
  live : IsTrue (list_all is_live ls)
  valid : IsTrue (are_valid_links (pos (2 ^ 29)) n ls)

linked : (ps : List Particle) (ls : List Link) → length ps ≤ 65536 → IsMesh (pos (2 ^ 29)) 0 ps ls → Linked (0 + length ps) ls
linked ps ls small mesh =
    let n : ℕ = 0 + length ps in
    let each = every_from_test (is_mesh_link (pos (2 ^ 29)) 0 n) ls mesh.links in
    let live : IsTrue (list_all is_live ls) = every_test is_live ls
    (every_more _ (λ l. IsTrue (is_live l)) ls (λ l t. (mesh_link n l t).0) each) in
    let valid : IsTrue (list_all (is_valid_link (pos (2 ^ 29)) n) ls) =
    every_test _ ls (every_more _ (λ l. IsTrue (is_valid_link (pos (2 ^ 29)) n l)) ls (λ l t. (mesh_link n l t).1) each) in
    let size : nat_le (length ls) 524288 ≡ true = le-leb _ _ (omega (arith, mesh.size, small)) in
    let count : list_all (λ i. nat_le (links_at ls i) 32) (range_with_len 0 n)
    ≡ true = range_all _ 0 n (λ i low below. le-leb _ _ (omega (arith, mesh.few i))) in
    record { live = live; valid = rw (size, valid, mesh.once, count) refl }

-- ---- the whole

sphere_valid : (size : ℕ) → size ≤ 128 → IsTrue (is_valid_sphere (pos (2 ^ 29)) (middle_sphere size))
sphere_valid size small = rw (
  (within_facts (pos (2 ^ 29)) (plus (middle_sphere size).centre (on_axes (λ axis. pos 32768) (middle_sphere size).centre)) positive).1
      (record { x = omega (arith, ints, small); y = omega (arith, ints); z = omega (arith, ints, small) }),
  (within_facts (pos (2 ^ 29)) (minus (middle_sphere size).centre (on_axes (λ axis. pos 32768) (middle_sphere size).centre)) positive).1
      (record { x = omega (arith, ints, small); y = omega (arith, ints); z = omega (arith, ints, small) }),
) refl

split_all : {A : Type 0} (a b : A → Bool) (xs : List A) → IsTrue (list_all (λ x. a x && b x) xs)
    → IsTrue (list_all a xs) × IsTrue (list_all b xs)
split_all a b [] t = (refl, refl)
split_all a b (x ∷ xs) t =
    let parts = and_parts (a x && b x) (list_all (λ y. a y && b y) xs) t in
    let here = and_parts (a x) (b x) parts.0 in
    let rest = split_all a b xs parts.1 in
    (and_from (a x) (list_all a xs) here.0 rest.0, and_from (b x) (list_all b xs) here.1 rest.1)

pub generated_valid : (number size : ℕ) → 2 ≤ size → size ≤ 128 → IsTrue (is_valid (generated number size))
unfolding generated is_valid is_well_formed
generated_valid number size low small =
    let spec = level_cloth size in
    let ps : List Particle = cloth_particles spec in
    let all : List Particle = all_set_off size 0 (words_of number) ps in
    let count : length all ≡ length ps = as_many size 0 (words_of number) ps in
    let most : length ps ≤ 65536 = omega (arith, cloth_size spec, square_few size small) in
    let mesh : IsMesh (pos (2 ^ 29)) 0 ps (cloth_links spec 0) = cloth_mesh (pos (2 ^ 29)) 0 spec refl (level_fits size low small) in
    let same : length all ≡ 0 + length ps = omega (arith, count) in
    let links : Linked (length all) (cloth_links spec 0) = rw same (linked ps (cloth_links spec 0) most mesh) in
    let particles = split_all (is_valid_particle (pos (2 ^ 29))) (λ p. not p.held || is_at_rest p) all
    (all_settled size 0 (words_of number) ps (all_calm size small)) in
    let room : nat_le (length all) 65536 ≡ true = le-leb _ _ (omega (arith, count, most)) in
    rw (room, particles.0, particles.1, links.valid, links.live, sphere_valid size small) refl
