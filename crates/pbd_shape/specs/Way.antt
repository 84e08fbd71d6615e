-- The way of a place through the shapes, as the code holds it.
use Rattle.std.specs.Prelude.{◌≡◌, ℕ, ◌<◌, ℤ, List, false, Some}
use Rattle.pbd_num.specs.declared.Vec3.{Vec3}
use Rattle.pbd_world.specs.Shapes.{Shape, Way, shapes_of, way_through}
use Rattle.pbd_shape.specs.declared.shapes.Shapes.{Shapes}
use Rattle.pbd_shape.specs.declared.way.Pushed.{Pushed}
use Rattle.pbd_shape.specs.Valid.{lists_of}

-- all shapes in order, as what they do with a place
abbrev pub all_shapes : Shapes → List Shape
all_shapes shapes = shapes_of (lists_of shapes)

abbrev pub way_of : Pushed → Way
way_of w = record { at = w.at; touched = w.touched }

-- a place at the start of its way
abbrev pub starting : Vec3 → Way
starting at = record { at = at; touched = false }

-- no shape touches a place
abbrev pub IsStill : ℤ → List Shape → Vec3 → Type 0
IsStill limit shapes at = way_through limit shapes (starting at) ≡ Some (starting at)

-- no shape touches any of the first n places
pub record AreStill (shapes : List Shape) (n : ℕ) (place : ℕ → Vec3) : Type 0 where
  pub at : (limit : ℤ) (j : ℕ) → j < n → IsStill limit shapes (place j)
