-- What the call answers and writes that cuts the faces of a mesh into triangles.
use Rattle.std.specs.Prelude.{◌≡◌, ◌⊎◌, ℕ, ℤ, pos, List, length, Result, Ok}
use Rattle.pbd_world.specs.Lending.{overwritten}
use Rattle.pbd_obj.specs.declared.arrays.ArraysFault.{ArraysFault}
use Rattle.pbd_obj.specs.declared.mesh.ObjMesh.{ObjMesh}
use Rattle.pbd_obj.specs.declared.triangles.Triangle.{Triangle}
use Rattle.pbd_obj.specs.Arrays.{IsArraysFault}
use Rattle.pbd_obj.specs.Triangles.{triangles}
use Rattle.lakmozet_c.specs.declared.meshes.Unfit.TheVariants.{NoArrays}
use Rattle.lakmozet_c.specs.declared.plain.MeshFault.{MeshFault}
use Rattle.lakmozet_c.specs.Calls.{room_answer}
use Rattle.lakmozet_c.specs.Meshed.{unfit_fault, unfit_number}

-- those of the mesh that arrays are
pub record AreTriangles (meant : Result ObjMesh ArraysFault) (found : List Triangle) : Type 0 where
  pub mesh : ObjMesh
  pub arrays : meant ≡ Ok mesh
  pub cut : found ≡ triangles mesh

-- as many are written as there is room for, and no fault is told
pub record WritesTriangles (meant : Result ObjMesh ArraysFault) (old new : List Triangle) (answer : ℤ) (count : ℕ)
    (before fault : MeshFault) : Type 0 where
  pub found : List Triangle
  pub cut : AreTriangles meant found
  pub room : answer ≡ pos (room_answer (length found) (length old))
  pub counted : count ≡ length found
  pub written : new ≡ overwritten old found
  pub told : fault ≡ before

-- the arrays are no mesh, or there is no memory: the fault is told, and nothing else is written
pub record WritesNoTriangles (meant : Result ObjMesh ArraysFault) (old new : List Triangle) (answer : ℤ) (before count : ℕ)
    (fault : MeshFault) : Type 0 where
  pub why : ArraysFault
  pub reason : IsArraysFault meant why
  pub number : answer ≡ pos (unfit_number (NoArrays why))
  pub told : fault ≡ unfit_fault (NoArrays why)
  pub kept : new ≡ old
  pub counted : count ≡ before

abbrev pub WritesTrianglesOr : Result ObjMesh ArraysFault → List Triangle → List Triangle → ℤ → ℕ → ℕ → MeshFault → MeshFault → Type 0
WritesTrianglesOr meant old new answer before count fault_before fault =
    WritesTriangles meant old new answer count fault_before fault ⊎ WritesNoTriangles meant old new answer before count fault
