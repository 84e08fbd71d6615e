-- Shapes as the lists of a world, their ranges as facts, and that valid shapes are in their ranges.
use Rattle.std.proofs.Common.{◌<◌, ◌≤◌, ◌^◌, ◌&&◌, ℕ, nat_le, ℤ, pos, ◌+ℤ◌, ◌-ℤ◌, ◌≤ℤ◌, int_le, unsigned_abs, Bool, IsTrue}
use Rattle.std.proofs.Common.{List, length, get_or, arith}
use Rattle.std.specs.List.{All, list_all}
use Rattle.std.proofs.lemmas.Int.{ints}
use Rattle.std.proofs.lemmas.Bool.{and_parts, ltb-true}
use Rattle.std.proofs.lemmas.Bool.Decides.{nat_tests}
use Rattle.std.proofs.lemmas.List.Sums.{AllPass-from_list_all}
use Rattle.pbd_num.specs.Vectors.{Within, squared_length, is_axis_within}
use Rattle.pbd_num.proofs.Ranges.{within_facts, axis_fact}
use Rattle.pbd_num.proofs.Sizes.{size_le, size_above, size_below}
use Rattle.pbd_world.specs.declared.parts.Plane.{Plane}
use Rattle.pbd_world.specs.declared.parts.Sphere.{Sphere}
use Rattle.pbd_world.specs.declared.parts.ShapeLists.{ShapeLists}
use Rattle.pbd_world.specs.Shapes.{is_valid_plane, is_valid_sphere, are_valid_shapes}
use Rattle.pbd_shape.specs.declared.shapes.Shapes.{Shapes}

-- the shapes as a world has them
abbrev pub lists_of : Shapes → ShapeLists
lists_of shapes = record { planes = shapes.planes.now; spheres = shapes.spheres.now }

-- a limit of places
pub record IsLimit (limit : ℤ) : Type 0 where
  pub low : pos 0 ≤ℤ limit
  pub high : unsigned_abs limit ≤ 2 ^ 29

-- ---- one shape

-- a plane with a normal that isn't zero
pub record IsPlane (plane : Plane) : Type 0 where
  pub normal : Within (2 ^ 10) plane.normal
  pub some : 0 < squared_length plane.normal
  pub offset : unsigned_abs plane.offset ≤ 2 ^ 40

plane_is : (plane : Plane) → IsTrue (is_valid_plane plane) → IsPlane plane
plane_is plane h =
    let p = and_parts _ _ h in
    let q = and_parts _ _ p.0 in
    record {
      normal = (within_facts (pos 1024) plane.normal (omega (arith, ints))).0 q.0;
      some = ltb-true 0 _ q.1;
      offset = offset_size plane.offset p.1;
    }
  where
    offset_size : (n : ℤ) → IsTrue (is_axis_within (pos (2 ^ 40)) n) → unsigned_abs n ≤ 2 ^ 40
    offset_size n t = axis_fact (pos (2 ^ 40)) n (omega (arith, ints)) t

-- a sphere whose centre and radius are in the range of the greater limit
pub record IsSphere (sphere : Sphere) : Type 0 where
  pub centre : Within (2 ^ 29) sphere.centre
  pub low : pos 0 ≤ℤ sphere.radius
  pub high : unsigned_abs sphere.radius ≤ 2 ^ 29

-- both ends of a reach are in a range, and so is its middle
middle : (c r : ℤ) (b : ℕ) → unsigned_abs (c +ℤ r) ≤ b → unsigned_abs (c -ℤ r) ≤ b → unsigned_abs c ≤ b
middle c r b h k = size_le c b (omega (arith, ints, size_above (c +ℤ r), size_above (c -ℤ r)))
    (omega (arith, ints, size_below (c +ℤ r), size_below (c -ℤ r)))

half : (c r : ℤ) (b : ℕ) → unsigned_abs (c +ℤ r) ≤ b → unsigned_abs (c -ℤ r) ≤ b → unsigned_abs r ≤ b
half c r b h k = size_le r b (omega (arith, ints, size_above (c +ℤ r), size_below (c -ℤ r)))
    (omega (arith, ints, size_below (c +ℤ r), size_above (c -ℤ r)))

sphere_is : (limit : ℤ) → IsLimit limit → (s : Sphere) → IsTrue (is_valid_sphere limit s) → IsSphere s
sphere_is limit lim s h =
    let p = and_parts _ _ h in
    let q = and_parts _ _ p.0 in
    let above = (within_facts limit _ lim.low).0 q.1 in
    let below = (within_facts limit _ lim.low).0 p.1 in
    let b = 2 ^ 29 in
    record {
      centre = record {
        x = middle s.centre.x s.radius b (omega (arith, above.x, lim.high)) (omega (arith, below.x, lim.high));
        y = middle s.centre.y s.radius b (omega (arith, above.y, lim.high)) (omega (arith, below.y, lim.high));
        z = middle s.centre.z s.radius b (omega (arith, above.z, lim.high)) (omega (arith, below.z, lim.high));
      };
      low = not_below s.radius q.0;
      high = half s.centre.x s.radius b (omega (arith, above.x, lim.high)) (omega (arith, below.x, lim.high));
    }
  where
    not_below : (r : ℤ) → IsTrue (int_le (pos 1) r) → pos 0 ≤ℤ r
    not_below r t = grind (arith, ints, nat_tests)

-- ---- all shapes

-- each shape is in its range
pub record AreInRange (shapes : Shapes) : Type 0 where
  pub planes : All IsPlane shapes.planes.now
  pub spheres : All IsSphere shapes.spheres.now

-- valid shapes of one kind are in their ranges if each of them is
each_is : {S : Type 0} (valid : S → Bool) (Fits : S → Type 0) → ((s : S) → IsTrue (valid s) → Fits s) → (xs : List S)
    → IsTrue (nat_le (length xs) 256 && list_all valid xs) → All Fits xs
each_is valid Fits law xs h = λ i d lt. law (get_or xs i d) (AllPass-from_list_all valid xs (and_parts _ _ h).1 i d lt)

-- valid shapes are in their ranges
pub shapes_are : (limit : ℤ) (shapes : Shapes) → IsLimit limit → IsTrue (are_valid_shapes limit (lists_of shapes)) → AreInRange shapes
shapes_are limit shapes lim h =
    let valid = and_parts _ _ h in
    record {
      planes = each_is is_valid_plane IsPlane plane_is shapes.planes.now valid.0;
      spheres = each_is (is_valid_sphere limit) IsSphere (sphere_is limit lim) shapes.spheres.now valid.1;
    }
