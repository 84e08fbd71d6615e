-- Valid shapes fit their bytes, and the bytes tell them.
use Rattle.std.proofs.Common.{◌≡◌, refl, ℕ, ◌≤◌, ◌^◌, [], ◌∷◌, ◌++◌, arith, ℤ, pos, neg_ℤ, ◌+ℤ◌, ◌-ℤ◌, unsigned_abs}
use Rattle.std.specs.Prelude.{IsTrue, FitsSigned}
use Rattle.std.specs.Int.{w64}
use Rattle.std.proofs.lemmas.Int.{ints}
use Rattle.std.proofs.lemmas.Bool.{and_parts}
use Rattle.pbd_num.specs.Vectors.{is_axis_within}
use Rattle.pbd_num.proofs.Ranges.{within_facts, axis_fact}
use Rattle.pbd_num.proofs.Sizes.{fits, size_above, size_below, size_le}
use Rattle.pbd_world.specs.declared.parts.Plane.{Plane}
use Rattle.pbd_world.specs.declared.parts.Sphere.{Sphere}
use Rattle.pbd_world.specs.declared.parts.ShapeLists.{ShapeLists}
use Rattle.pbd_world.specs.Shapes.{no_shapes, is_valid_plane, are_valid_planes, is_valid_sphere, are_valid_spheres, are_valid_shapes}
use Rattle.pbd_world.proofs.KeptLemmas.{IsLimit}
use Rattle.pbd_log.specs.Entries.{number_bytes, signed_bytes, vector_bytes, VectorFits}
use Rattle.pbd_encoding.specs.Scene.{plane_bytes, sphere_bytes, AreFewShapes, shape_bytes}
use Rattle.pbd_encoding.proofs.Rows.{many}
use Rattle.pbd_encoding.proofs.Ranges.{vector_fits, few_from}
use Rattle.pbd_encoding.proofs.Texts.{Tells, both_tell, tells_so, told_alone, signed_tells, vector_tells, items_tell, AreFew}

-- ---- in their ranges

record PlaneFits (plane : Plane) : Type 0 where
  normal : VectorFits plane.normal
  offset : FitsSigned w64 plane.offset

offset_fits : (z : ℤ) → IsTrue (is_axis_within (pos (2 ^ 40)) z) → FitsSigned w64 z
offset_fits z h = fits z (omega (arith, axis_fact (pos (2 ^ 40)) z (omega (arith, ints)) h))

plane_fits : (plane : Plane) → IsTrue (is_valid_plane plane) → PlaneFits plane
plane_fits plane h =
    let p = and_parts _ _ h in
    let q = and_parts _ _ p.0 in
    let w = (within_facts (pos 1024) plane.normal (omega (arith, ints))).0 q.0 in
    record { normal = vector_fits plane.normal 1024 (omega arith) w; offset = offset_fits plane.offset p.1 }

record SphereFits (sphere : Sphere) : Type 0 where
  centre : VectorFits sphere.centre
  radius : FitsSigned w64 sphere.radius

-- the middle of a reach, and half of it, are no greater than its ends
reach_parts : (c r : ℤ) (b : ℕ) → unsigned_abs (c +ℤ r) ≤ b → unsigned_abs (c -ℤ r) ≤ b → (unsigned_abs c ≤ b) × (unsigned_abs r ≤ b)
reach_parts c r b h k =
    let up = size_above (c +ℤ r) in let down = size_below (c +ℤ r) in
    let high = size_above (c -ℤ r) in let low = size_below (c -ℤ r) in (
      size_le c b (omega (arith, ints, up, high, h, k)) (omega (arith, ints, down, low, h, k)),
      size_le r b (omega (arith, ints, up, low, h, k)) (omega (arith, ints, down, high, h, k)),
    )

sphere_fits : (limit : ℤ) (s : Sphere) → IsLimit limit → IsTrue (is_valid_sphere limit s) → SphereFits s
sphere_fits limit s lim h =
    let p = and_parts _ _ h in
    let q = and_parts _ _ p.0 in
    let above = (within_facts limit _ lim.low).0 q.1 in
    let below = (within_facts limit _ lim.low).0 p.1 in
    let b = unsigned_abs limit in
    let x = reach_parts s.centre.x s.radius b above.x below.x in
    let y = reach_parts s.centre.y s.radius b above.y below.y in
    let z = reach_parts s.centre.z s.radius b above.z below.z in
    record {
      centre = vector_fits s.centre b (omega (arith, lim.high)) (record { x = x.0; y = y.0; z = z.0 });
      radius = fits s.radius (omega (arith, lim.high, x.1));
    }

pub record ShapesFit (lists : ShapeLists) : Type 0 where
  planes : AreFew PlaneFits lists.planes
  spheres : AreFew SphereFits lists.spheres

pub shapes_fit : (limit : ℤ) (lists : ShapeLists) → IsLimit limit → IsTrue (are_valid_shapes limit lists) → ShapesFit lists
shapes_fit limit lists lim h =
    let p = and_parts (are_valid_planes lists.planes) (are_valid_spheres limit lists.spheres) h in
    record {
      planes = few_from 256 is_valid_plane PlaneFits lists.planes (omega arith) plane_fits p.0;
      spheres = few_from 256 (is_valid_sphere limit) SphereFits lists.spheres (omega arith) (λ s v. sphere_fits limit s lim v) p.1;
    }

pub few_shapes : (lists : ShapeLists) → ShapesFit lists → AreFewShapes lists
few_shapes lists f = (f.planes.few, f.spheres.few)

-- ---- what they tell

plane_tells : (p q : Plane) → PlaneFits p → PlaneFits q → Tells (plane_bytes p) (plane_bytes q) (p ≡ q)
unfolding plane_bytes
plane_tells p q f g =
    tells_so (both_tell (vector_tells p.normal q.normal f.normal g.normal) (signed_tells p.offset q.offset f.offset g.offset))
    (λ e i. record { normal = e.0 i; offset = e.1 i })

sphere_tells : (s t : Sphere) → SphereFits s → SphereFits t → Tells (sphere_bytes s) (sphere_bytes t) (s ≡ t)
unfolding sphere_bytes
sphere_tells s t f g =
    tells_so (both_tell (vector_tells s.centre t.centre f.centre g.centre) (signed_tells s.radius t.radius f.radius g.radius))
    (λ e i. record { centre = e.0 i; radius = e.1 i })

-- they stand last
pub shapes_tell : (a b : ShapeLists) → ShapesFit a → ShapesFit b → shape_bytes a ≡ shape_bytes b → a ≡ b
unfolding shape_bytes
shapes_tell a b f g e =
    let planes = items_tell plane_bytes PlaneFits a.planes b.planes plane_tells f.planes g.planes in
    let spheres = items_tell sphere_bytes SphereFits a.spheres b.spheres sphere_tells f.spheres g.spheres in
    let p = told_alone (both_tell planes spheres) e in
    λ i. record { planes = p.0 i; spheres = p.1 i }

-- ---- worked rows

-- no plane, and a sphere
sphere_row : shape_bytes (record no_shapes { spheres = record { centre = record { x = pos 1; y = neg_ℤ (pos 2); z = pos 0 }; radius = pos 258 } ∷ [] })
    ≡ many 4 0
    ++ 0 ∷ 0 ∷ 0 ∷ 1 ∷ [] ++ many 7 0 ++ 1 ∷ [] ++ many 7 255 ++ 254 ∷ [] ++ many 8 0 ++ many 6 0 ++ 1 ∷ 2 ∷ []
unfolding shape_bytes plane_bytes sphere_bytes vector_bytes signed_bytes number_bytes
sphere_row = refl
