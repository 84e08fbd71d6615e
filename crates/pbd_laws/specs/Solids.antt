-- Which shape touches a place last on its way through all of them, and where that leaves it.
use Rattle.std.specs.Prelude.{ℕ, ◌+◌, ◌<◌, pos, ◌+ℤ◌, ◌*ℤ◌, ◌≤ℤ◌, unsigned_abs, List, [], ◌∷◌, ◌++◌, map, Option, Some, None}
use Rattle.pbd_num.specs.declared.Vec3.{Vec3}
use Rattle.pbd_num.specs.Vectors.{minus, dot, length_of, squared_length}
use Rattle.pbd_world.specs.declared.parts.Plane.{Plane}
use Rattle.pbd_world.specs.declared.parts.Sphere.{Sphere}
use Rattle.pbd_world.specs.declared.parts.ShapeLists.{ShapeLists}
use Rattle.pbd_world.specs.Shapes.{Shape, plane_shape, sphere_shape}

-- a shape of any kind
pub data Solid : Type 0 where
  APlane : Plane → Solid
  ASphere : Sphere → Solid

-- the planes in order, then the spheres in order
abbrev pub solids_of : ShapeLists → List Solid
solids_of lists = map (λ plane. APlane plane) lists.planes ++ map (λ sphere. ASphere sphere) lists.spheres

abbrev pub shape_by : Solid → Shape
shape_by (APlane plane) = plane_shape plane
shape_by (ASphere sphere) = sphere_shape sphere

-- a plane has a normal, by whose length it divides; of a sphere nothing is asked
abbrev pub CanPush : Solid → Type 0
CanPush (APlane plane) = 0 < squared_length plane.normal
CanPush (ASphere sphere) = Unit {0}

-- a later solid, or else this one
abbrev pub later_or : Solid → Option Solid → Option Solid
later_or solid None = Some solid
later_or solid (Some later) = Some later

-- a solid that doesn't touch the place is passed, and one that does is the last unless a later one is
abbrev pub last_from : Solid → (Vec3 → Option Solid) → Vec3 → Option Vec3 → Option Solid
last_from solid rest at None = rest at
last_from solid rest at (Some to) = later_or solid (rest to)

-- the solid that touches a place last on its way through them, if one does
abbrev pub last_solid : List Solid → Vec3 → Option Solid
last_solid [] at = None
last_solid (solid ∷ solids) at = last_from solid (last_solid solids) at (shape_by solid at)

-- the sum of the sizes of a vector's axes
abbrev pub size_sum : Vec3 → ℕ
size_sum v = unsigned_abs v.x + unsigned_abs v.y + unsigned_abs v.z

-- out of a solid, but for what rounding may take: half of the normal's sizes from a plane's offset, and at most 1 from a radius
abbrev pub IsOut : Solid → Vec3 → Type 0
IsOut (APlane plane) v = (pos 2 *ℤ plane.offset) ≤ℤ (pos 2 *ℤ dot plane.normal v +ℤ pos (size_sum plane.normal))
IsOut (ASphere sphere) v = sphere.radius ≤ℤ pos (length_of (minus v sphere.centre) + 1)
