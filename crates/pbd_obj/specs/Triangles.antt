-- The faces of a mesh as triangles.
use Rattle.std.specs.Prelude.{ℕ, ◌-◌, List, length, map, slice_index}
use Rattle.std.specs.List.{flat_map, range_with_len}
use Rattle.pbd_obj.specs.declared.mesh.ObjMesh.{ObjMesh}
use Rattle.pbd_obj.specs.declared.triangles.Triangle.{Triangle}
use Rattle.pbd_obj.specs.Meshes.{faces}

-- the first corner of a face, corner i - 1 and corner i
unfoldable pub fan_triangle : List ℕ → ℕ → Triangle
fan_triangle face i = record { a = slice_index face 0; b = slice_index face (i - 1); c = slice_index face i }

-- from the first corner to each side that isn't at it: a face a b c d is a b c and a c d
abbrev pub fan : List ℕ → List Triangle
fan face = map {A = ℕ} {B = Triangle} (fan_triangle face) (range_with_len 2 (length face - 2))

-- face by face
abbrev pub triangles : ObjMesh → List Triangle
triangles mesh = flat_map {X = List ℕ} {A = Triangle} fan (faces mesh)
