-- What the tables of a tree give, while its parts are put together.
use Rattle.std.proofs.Common.{◌≡◌, ◌+◌, ◌≤◌, ◌^◌, List, [], ◌∷◌, length, Bool, true, arith, ℤ, All, get_or}
use Rattle.std.specs.Prelude.{IsTrue, fold}
use Rattle.std.specs.List.{list_all}
use Rattle.std.proofs.lemmas.Bool.{and_parts}
use Rattle.std.proofs.lemmas.List.{length-append}
use Rattle.std.proofs.lemmas.List.Elements.{All-from_get_or, All-cons, All-nil}
use Rattle.std.proofs.lemmas.List.Sums.{sum_by-cons}
use Rattle.pbd_num.specs.Vectors.{Within, is_within, zero_vector}
use Rattle.pbd_num.proofs.Ranges.{within_facts}
use Rattle.pbd_mesh.specs.declared.spec.ClothSpec.{ClothSpec}
use Rattle.pbd_mesh.specs.declared.spec.RopeSpec.{RopeSpec}
use Rattle.pbd_mesh.specs.Cloth.{cloth_fits, cloth_particles}
use Rattle.pbd_mesh.specs.Rope.{rope_fits, rope_particles}
use Rattle.pbd_mesh.proofs.Facts.{limit_bounds}
use Rattle.pbd_mesh.proofs.Meshes.{cloth_size, rope_size}
use Rattle.pbd_world.specs.declared.parts.Particle.{Particle}
use Rattle.pbd_world.specs.declared.parts.Parts.{Parts}
use Rattle.pbd_world.specs.Valid.{is_limit}
use Rattle.pbd_scene.specs.declared.raw.Settings.{Settings}
use Rattle.pbd_scene.specs.declared.raw.Tables.{Tables}
use Rattle.pbd_scene.specs.Entries.{cloth_size as size_of_cloth, all_cloths_size, all_ropes_size}
use Rattle.pbd_scene.specs.Scene.{with_cloth, with_rope, plain_parts, with_meshes}
use Rattle.pbd_scene.proofs.LiveLinks.{within_at}
use Rattle.pbd_scene.proofs.Validity.{TablesFit, Meshed, meshes_fit}

-- a test of all, as a fact of each
each_of : {A : Type 0} (test : A → Bool) (xs : List A) → list_all test xs ≡ true → All (λ x. test x ≡ true) xs
each_of test [] t = All-nil (λ x. test x ≡ true)
each_of test (x ∷ xs) t =
    let parts = and_parts (test x) (list_all test xs) t in
    All-cons (λ x. test x ≡ true) x xs parts.0 (each_of test xs parts.1)

no_particle : Particle
no_particle = record { at = zero_vector; before = zero_vector; weight = 0; held = true }

-- the cloths, and their room
pub cloths_fit : (limit m : ℤ) (t : Tables) (xs : List ClothSpec) → xs ≡ t.cloths → m ≡ limit → TablesFit limit t
    → All (λ s. cloth_fits m s ≡ true) xs
cloths_fit limit m t xs same is fit = rw (same, is) (each_of (cloth_fits limit) t.cloths fit.cloths.fit)

-- ---- parts to which the cloths are added, and then the ropes

pub cloth_grows : (parts : Parts) (s : ClothSpec) → length (with_cloth parts s).particles ≡ length parts.particles + size_of_cloth s
cloth_grows parts s = omega (arith, length-append parts.particles (cloth_particles s), cloth_size s)

pub rope_grows : (parts : Parts) (s : RopeSpec) → length (with_rope parts s).particles ≡ length parts.particles + s.count
rope_grows parts s = omega (arith, length-append parts.particles (rope_particles s), rope_size s)

pub cloths_grow : (parts : Parts) (cloths : List ClothSpec)
    → length (fold with_cloth parts cloths).particles ≡ length parts.particles + all_cloths_size cloths
cloths_grow parts [] = omega arith
cloths_grow parts (s ∷ ss) = omega (
  arith,
  cloths_grow (with_cloth parts s) ss,
  length-append parts.particles (cloth_particles s),
  cloth_size s,
  sum_by-cons size_of_cloth s ss,
)

pub ropes_fit : (limit m : ℤ) (t : Tables) (ys : List RopeSpec) → ys ≡ t.ropes → m ≡ limit → TablesFit limit t
    → All (λ s. rope_fits m s ≡ true) ys
ropes_fit limit m t ys same is fit = rw (same, is) (each_of (rope_fits limit) t.ropes fit.ropes.fit)

pub meshes_room : (limit : ℤ) (t : Tables) (xs : List ClothSpec) (ys : List RopeSpec) → xs ≡ t.cloths → ys ≡ t.ropes → TablesFit limit t
    → length t.particles + all_cloths_size xs + all_ropes_size ys ≤ 65536
meshes_room limit t xs ys same its fit = rw (same, its) fit.ropes.room

pub meshed_now : (limit : ℤ) (s : Settings) (t : Tables) (now : Parts) (xs : List ClothSpec) (ys : List RopeSpec)
    → now ≡ fold with_rope (fold with_cloth (plain_parts limit s t) xs) ys → xs ≡ t.cloths → ys ≡ t.ropes → IsTrue (is_limit limit)
    → TablesFit limit t → Meshed limit (plain_parts limit s t) now
unfolding with_meshes
meshed_now limit s t now xs ys is same its lim fit = rw (is, same, its) (meshes_fit limit s t lim fit)

within_range : (limit : ℤ) (p : Particle) → IsTrue (is_limit limit) → is_within limit p.at ≡ true → Within (2 ^ 29) p.at
within_range limit p lim t =
    let b = limit_bounds limit lim in
    let w = (within_facts limit p.at b.0).0 t in
    record { x = omega (arith, w.x, b.1); y = omega (arith, w.y, b.1); z = omega (arith, w.z, b.1) }

pub places_within : (limit : ℤ) (start last : Parts) → IsTrue (is_limit limit) → Meshed limit start last
    → All (λ p. Within (2 ^ 29) p.at) last.particles
places_within limit start last lim m = All-from_get_or (λ (p : Particle). Within (2 ^ 29) p.at) last.particles no_particle
    (λ i within. within_range limit (get_or last.particles i no_particle) lim
    (within_at limit last.particles i no_particle m.particles within))
