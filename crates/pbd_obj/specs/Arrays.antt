-- The mesh that arrays are, or the first fault.
use Rattle.std.specs.Prelude.{◌≡◌, ◌⊎◌, ℕ, nat_lt, ◌==◌, pos, Bool, not, ◌&&◌, if◌then◌else◌, List, length, position, sum, Option, Some}
use Rattle.std.specs.Prelude.{None, Result, Ok, Err}
use Rattle.std.specs.List.{list_all}
use Rattle.pbd_num.specs.declared.Vec3.{Vec3}
use Rattle.pbd_num.specs.Vectors.{is_within}
use Rattle.pbd_obj.specs.declared.mesh.ObjMesh.{ObjMesh}
use Rattle.pbd_obj.specs.declared.arrays.ArraysFault.{ArraysFault}
use Rattle.pbd_obj.specs.declared.arrays.ArraysFault.TheVariants.{BadCount, OutOfRange, BadFace, OutOfMemory}
use Rattle.pbd_obj.specs.Meshes.{cut}
use Rattle.pbd_obj.specs.Reading.{is_face}

abbrev pub is_outside : Vec3 → Bool
is_outside place = not (is_within (pos 536870912) place)

-- at least three of n vertices, and none twice
abbrev pub is_face_of : ℕ → List ℕ → Bool
is_face_of n face = list_all (λ corner. nat_lt corner n) face && is_face face

abbrev pub is_no_face : ℕ → List ℕ → Bool
is_no_face n face = not (is_face_of n face)

-- a mesh, unless it has a bad vertex or a bad face
abbrev pub unless_bad : Option ℕ → Option ℕ → ObjMesh → Result ObjMesh ArraysFault
unless_bad (Some vertex) bad mesh = Err (OutOfRange vertex)
unless_bad None (Some face) mesh = Err (BadFace face)
unless_bad None None mesh = Ok mesh

unfoldable pub mesh_of : List Vec3 → List ℕ → List ℕ → Result ObjMesh ArraysFault
mesh_of places sizes corners =
    if sum sizes == length corners
    then unless_bad (position is_outside places) (position (is_no_face (length places)) (cut sizes corners))
    (record { places = places; sizes = sizes; corners = corners })
    else Err BadCount

-- a fault is that of the arrays, or want of memory
abbrev pub IsArraysFault : Result ObjMesh ArraysFault → ArraysFault → Type 0
IsArraysFault meant fault = (fault ≡ OutOfMemory) ⊎ (meant ≡ Err fault)
