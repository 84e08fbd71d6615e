-- What opening a scene with a mesh answers, and why it opened nothing.
use Rattle.std.specs.Prelude.{◌≡◌, ◌⊎◌, ℕ, ◌-◌, ◌==◌, ◌≤◌, if◌then◌else◌, ℤ, pos, false, IsTrue, List, map, Option, Some, None, Result, Ok}
use Rattle.std.specs.Str.{IsUtf8}
use Rattle.toml.specs.Parse.{parse_document}
use Rattle.pbd_num.specs.declared.Vec3.{Vec3}
use Rattle.pbd_world.specs.declared.parts.Parts.{Parts}
use Rattle.pbd_world.specs.World.{opened}
use Rattle.pbd_obj.specs.declared.arrays.ArraysFault.{ArraysFault}
use Rattle.pbd_obj.specs.declared.arrays.ArraysFault.TheVariants as arrays
use Rattle.pbd_obj.specs.declared.mesh.ObjFault.{ObjFault}
use Rattle.pbd_obj.specs.declared.mesh.ObjFault.TheVariants as adding
use Rattle.pbd_obj.specs.declared.mesh.ObjMesh.{ObjMesh}
use Rattle.pbd_obj.specs.declared.settings.LinkSettings.{LinkSettings}
use Rattle.pbd_obj.specs.declared.settings.MeshSettings.{MeshSettings}
use Rattle.pbd_obj.specs.Arrays.{mesh_of, IsArraysFault}
use Rattle.pbd_obj.specs.MeshLinks.{with_mesh_as}
use Rattle.pbd_obj.specs.Reading.{IsFaultOf}
use Rattle.pbd_obj.specs.Settings.{are_settings}
use Rattle.pbd_cloth.specs.declared.place.Place.{Place}
use Rattle.pbd_cloth.specs.Slots.{Slotted, begun}
use Rattle.lakmozet_c.specs.declared.plain.Fault.{Fault}
use Rattle.lakmozet_c.specs.declared.plain.MeshEntry.{MeshEntry}
use Rattle.lakmozet_c.specs.declared.plain.MeshFault.{MeshFault}
use Rattle.lakmozet_c.specs.declared.meshes.MeshArrays.{MeshArrays}
use Rattle.lakmozet_c.specs.declared.meshes.NoWhole.{NoWhole}
use Rattle.lakmozet_c.specs.declared.meshes.NoWhole.TheVariants.{ByScene, ByMesh}
use Rattle.lakmozet_c.specs.declared.meshes.Unfit.{Unfit}
use Rattle.lakmozet_c.specs.declared.meshes.Unfit.TheVariants.{BadSettings, NoArrays, NotAdded}
use Rattle.lakmozet_c.specs.Calls.{in_use, status, vector_of}
use Rattle.lakmozet_c.specs.Faults.{nothing_wrong, stop_number, IsScene, IsWhy, TellsWhy}

-- ---- what a program hands in

-- there are none for a 0
abbrev pub some_settings : ℕ → ℕ → ℤ → Option LinkSettings
some_settings bends stiffness tear = if bends == 0 then None else Some (record { stiffness = stiffness; tear = tear })

abbrev pub settings_of : MeshEntry → MeshSettings
settings_of e = record {
  weight = e.weight;
  stretch = record { stiffness = e.stretch; tear = e.stretch_tear };
  shear = record { stiffness = e.shear; tear = e.shear_tear };
  bend = some_settings e.bends e.bend e.bend_tear;
}

-- the mesh that arrays are, or the first fault
abbrev pub mesh_in : List Place → List ℕ → List ℕ → Result ObjMesh ArraysFault
mesh_in vertices sizes corners = mesh_of (map {A = Place} {B = Vec3} vector_of vertices) sizes corners

-- the same of arrays that are handed on as one
abbrev pub mesh_of_arrays : MeshArrays → Result ObjMesh ArraysFault
mesh_of_arrays a = mesh_in a.vertices.now a.sizes.now a.corners.now

-- ---- a scene and a mesh

-- the parts of the mesh that arrays are, with settings in their ranges, behind a scene's
pub record IsWith (t : MeshSettings) (meant : Result ObjMesh ArraysFault) (parts whole : Parts) : Type 0 where
  pub settings : IsTrue (are_settings t)
  pub mesh : ObjMesh
  pub arrays : meant ≡ Ok mesh
  pub added : with_mesh_as t mesh parts ≡ Ok whole

-- a mesh that can't be added
pub record IsTooMuch (t : MeshSettings) (meant : Result ObjMesh ArraysFault) (parts : Parts) (fault : ObjFault) : Type 0 where
  pub settings : IsTrue (are_settings t)
  pub mesh : ObjMesh
  pub arrays : meant ≡ Ok mesh
  pub refused : IsFaultOf (with_mesh_as t mesh parts) fault

-- why there are no such parts: the settings first, then the arrays, and then what they make together
abbrev pub IsUnfit : MeshSettings → Result ObjMesh ArraysFault → Parts → Unfit → Type 0
IsUnfit t meant parts BadSettings = are_settings t ≡ false
IsUnfit t meant parts (NoArrays fault) = IsTrue (are_settings t) × IsArraysFault meant fault
IsUnfit t meant parts (NotAdded fault) = IsTooMuch t meant parts fault

-- the parts of the scene that the bytes spell, and the mesh behind them
pub record IsWhole (bytes : List ℕ) (t : MeshSettings) (meant : Result ObjMesh ArraysFault) (whole : Parts) : Type 0 where
  pub text : IsUtf8 bytes
  pub parts : Parts
  pub accepted : IsScene (parse_document bytes) parts
  pub added : IsWith t meant parts whole

-- the bytes spell a scene, and there are slots for it, but the mesh isn't added
pub record IsUnfitFor (bytes : List ℕ) (slots : ℕ) (t : MeshSettings) (meant : Result ObjMesh ArraysFault) (why : Unfit) : Type 0 where
  pub text : IsUtf8 bytes
  pub parts : Parts
  pub accepted : IsScene (parse_document bytes) parts
  pub few : slots ≤ 16
  pub unfit : IsUnfit t meant parts why

-- the reason holds of these bytes, slots and mesh
abbrev pub IsMeshWhy : List ℕ → ℕ → MeshSettings → Result ObjMesh ArraysFault → NoWhole → Type 0
IsMeshWhy bytes slots t meant (ByScene why) = IsWhy bytes slots why
IsMeshWhy bytes slots t meant (ByMesh why) = IsUnfitFor bytes slots t meant why

-- ---- numbers

-- the status that the program has for it, 14 for a mesh
abbrev pub unfit_number : Unfit → ℕ
unfit_number (NoArrays arrays.OutOfMemory) = status 12
unfit_number (NotAdded adding.OutOfMemory) = status 12
unfit_number why = status 14

abbrev pub mesh_stop_number : NoWhole → ℕ
mesh_stop_number (ByScene why) = stop_number why
mesh_stop_number (ByMesh why) = unfit_number why

abbrev pub mesh_fault : ℕ → ℕ → MeshFault
mesh_fault rule number = record { number = number; rule = rule }

-- the first that is wrong, and its vertex or face, from 0
abbrev pub unfit_fault : Unfit → MeshFault
unfit_fault (NoArrays (arrays.OutOfRange vertex)) = mesh_fault 1 vertex
unfit_fault (NoArrays (arrays.BadFace face)) = mesh_fault 2 face
unfit_fault (NoArrays arrays.BadCount) = mesh_fault 3 0
unfit_fault BadSettings = mesh_fault 4 0
unfit_fault (NotAdded adding.TooMany) = mesh_fault 5 0
unfit_fault (NotAdded (adding.TooManyAtParticle vertex)) = mesh_fault 6 (vertex - 1)
unfit_fault why = mesh_fault 0 0

abbrev pub mesh_fault_of : NoWhole → MeshFault
mesh_fault_of (ByScene why) = mesh_fault 0 0
mesh_fault_of (ByMesh why) = unfit_fault why

-- zeros where a mesh is the reason
abbrev pub TellsSceneWhy : NoWhole → Fault → Type 0
TellsSceneWhy (ByScene why) f = TellsWhy why f
TellsSceneWhy (ByMesh why) f = f ≡ nothing_wrong

-- ---- what opening does

-- the world of the scene and the mesh, before its first command, which is in each slot too
pub record IsMeshOpened (bytes : List ℕ) (slots : ℕ) (t : MeshSettings) (meant : Result ObjMesh ArraysFault) (cloth : Slotted)
    : Type 0 where
  pub whole : Parts
  pub parts : IsWhole bytes t meant whole
  pub few : slots ≤ 16
  pub first : cloth ≡ begun (opened whole) slots

-- it is open now, and no fault is told
pub record OpensMesh (bytes : List ℕ) (slots : ℕ) (t : MeshSettings) (meant : Result ObjMesh ArraysFault)
    (held : Option Slotted) (answer : ℤ) (before fault : Fault) (mesh_before mesh_fault : MeshFault) : Type 0 where
  pub done : answer ≡ pos 0
  pub cloth : Slotted
  pub holds : held ≡ Some cloth
  pub opened : IsMeshOpened bytes slots t meant cloth
  pub place : fault ≡ before
  pub vertex : mesh_fault ≡ mesh_before

-- it is still closed, for a reason that is told
pub record StaysClosedOf (bytes : List ℕ) (slots : ℕ) (t : MeshSettings) (meant : Result ObjMesh ArraysFault)
    (held : Option Slotted) (answer : ℤ) (fault : Fault) (mesh_fault : MeshFault) : Type 0 where
  pub nothing : held ≡ None
  pub why : NoWhole
  pub reason : IsMeshWhy bytes slots t meant why
  pub number : answer ≡ pos (mesh_stop_number why)
  pub place : TellsSceneWhy why fault
  pub vertex : mesh_fault ≡ mesh_fault_of why

-- what opening does to what a handle held: an open one stays as it is, and no fault is told
abbrev pub OpensMeshOr : Option Slotted → List ℕ → ℕ → MeshSettings → Result ObjMesh ArraysFault →
    Option Slotted → ℤ → Fault → Fault → MeshFault → MeshFault → Type 0
OpensMeshOr (Some cloth) bytes slots t meant held answer before fault mesh_before mesh_fault =
    (answer ≡ pos in_use) × (held ≡ Some cloth) × (fault ≡ before) × (mesh_fault ≡ mesh_before)
OpensMeshOr None bytes slots t meant held answer before fault mesh_before mesh_fault =
    OpensMesh bytes slots t meant held answer before fault mesh_before mesh_fault ⊎
    StaysClosedOf bytes slots t meant held answer fault mesh_fault
