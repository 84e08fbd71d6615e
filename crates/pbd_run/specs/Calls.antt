-- What the calls below `run` do.
use Rattle.std.specs.Prelude.{◌≡◌, ◌≢◌, ◌+◌, ◌<◌, ◌≤◌, ◌^◌, ℕ, List, [], length, Option, Some, Result, Ok, Err, ◌∷◌, ◌++◌}
use Rattle.std.specs.Io.KnownBytes.{Appends, Keeps}
use Rattle.pbd_io.specs.Causes.{HasRisen}
use Rattle.pbd_io.specs.Pieces.{AppendsPrefix}
use Rattle.pbd_world.specs.declared.parts.Parts.{Parts}
use Rattle.pbd_world.specs.Outcomes.{◌>>=◌, with_fault}
use Rattle.pbd_scene.specs.declared.fault.SceneFault.TheVariants as faults
use Rattle.pbd_obj.specs.declared.mesh.ObjMesh.{ObjMesh}
use Rattle.pbd_obj.specs.declared.mesh.ObjFault.{ObjFault}
use Rattle.pbd_obj.specs.declared.mesh.ObjFault.TheVariants as mesh_faults
use Rattle.pbd_obj.specs.Meshes.{IsMesh}
use Rattle.pbd_obj.specs.MeshLinks.{with_mesh}
use Rattle.pbd_obj.specs.Reading.{read}
use Rattle.pbd_outcome.specs.declared.job.Job.{Job}
use Rattle.pbd_outcome.specs.declared.job.Job.TheVariants.{Simulate, Record, Replay, Large, Scramble, Obj, Marks, Host}
use Rattle.pbd_outcome.specs.declared.status.Status.{Status}
use Rattle.pbd_outcome.specs.declared.status.Status.TheVariants.{ReadFault, WriteFault, InputTooLong, SceneNotText, SceneNotToml}
use Rattle.pbd_outcome.specs.declared.status.Status.TheVariants.{OutOfMemory}
use Rattle.pbd_outcome.specs.Outcome.{IsReplayed, Outcome, halves_in, meshed, most, most_of_log, obj_refused, range, recorded, scene_in}
use Rattle.pbd_outcome.specs.Outcome.{scene_refused, settled, simulated, stops, simulated_with_marks, hosted, scenes_in, stops_in}
use Rattle.pbd_outcome.specs.Split.{split}
use Rattle.pbd_outcome.specs.Statuses.{broken_at}
use Rattle.pbd_run.specs.declared.reading.ReadEnd.{ReadEnd}
use Rattle.pbd_run.specs.declared.reading.ReadEnd.TheVariants as readings
use Rattle.pbd_run.specs.declared.scene.SceneStop.{SceneStop}
use Rattle.pbd_run.specs.declared.scene.SceneStop.TheVariants.{NotText, Fault}

-- What a call answers and leaves in the sink that is to do as this outcome says.
abbrev pub Does : Outcome → Option (List ℕ) → Option (List ℕ) → ℕ → ℕ → Status → Type 0
Does o old new before now WriteFault = HasRisen before now × AppendsPrefix old new o.text
Does o old new before now OutOfMemory = Keeps old new
Does o old new before now status = (status ≡ o.status) × Appends old new o.text

-- a status that a call may end with of its own
abbrev pub IsPlain : Status → Type 0
IsPlain WriteFault = ⊥
IsPlain OutOfMemory = ⊥
IsPlain _ = Unit {0}

-- a call did as some outcome of this kind says
pub record DoesSome (IsOne : Outcome → Type 0) (old new : Option (List ℕ)) (before now : ℕ) (status : Status) : Type 0 where
  pub outcome : Outcome
  pub its : IsOne outcome
  pub does : Does outcome old new before now status

-- why a scene's bytes gave no parts
abbrev pub Stops : SceneStop → Result Parts Outcome → Type 0
Stops NotText r = r ≡ Err (stops SceneNotText [])
Stops (Fault faults.NotToml) r = r ≡ Err (stops SceneNotToml [])
Stops (Fault (faults.Refused rule table position key)) r = r ≡ Err (scene_refused (broken_at rule table position key))
Stops (Fault faults.OutOfMemory) r = Unit {0}

-- the parts that a scene's bytes gave, or why they gave none
abbrev pub GivesParts : Result Parts SceneStop → Result Parts Outcome → Type 0
GivesParts (Ok parts) r = r ≡ Ok parts
GivesParts (Err stop) r = Stops stop r

-- what a call does that ends a reading which didn't come to the end
abbrev pub EndsReading : ReadEnd → Option (List ℕ) → Option (List ℕ) → ℕ → ℕ → Status → Type 0
EndsReading readings.Failed old new before now status = Does (stops ReadFault []) old new before now status × (status ≢ OutOfMemory)
EndsReading readings.TooLong old new before now status = Does (stops InputTooLong []) old new before now status
EndsReading readings.OutOfMemory old new before now status = (status ≡ OutOfMemory) × Keeps old new

-- what a call does that ends a run whose scene gives no parts
abbrev pub EndsForScene : SceneStop → Option (List ℕ) → Option (List ℕ) → ℕ → ℕ → Status → Type 0
EndsForScene NotText old new before now status = Does (stops SceneNotText []) old new before now status
EndsForScene (Fault faults.NotToml) old new before now status = Does (stops SceneNotToml []) old new before now status
EndsForScene (Fault (faults.Refused rule table position key)) old new before now status =
    Does (scene_refused (broken_at rule table position key)) old new before now status
EndsForScene (Fault faults.OutOfMemory) old new before now status = (status ≡ OutOfMemory) × Keeps old new

-- what a call does that ends a run whose mesh is refused, or for which there was no memory
abbrev pub EndsForMesh : ObjFault → Option (List ℕ) → Option (List ℕ) → ℕ → ℕ → Status → Type 0
EndsForMesh mesh_faults.OutOfMemory old new before now status = (status ≡ OutOfMemory) × Keeps old new
EndsForMesh fault old new before now status = Does (obj_refused fault) old new before now status

-- ---- jobs that read

-- how many bytes the input of a job may have
abbrev pub limit_of : Job → ℕ
limit_of (Replay width) = most_of_log
limit_of job = most

-- what a job that reads comes to on an input that was read to its end
abbrev pub IsOne : Job → List ℕ → Outcome → Type 0
IsOne (Simulate width) input o = o ≡ simulated input
IsOne (Record width) input o = o ≡ recorded input
IsOne (Replay width) input o = IsReplayed input o
IsOne (Scramble seed) input o = o ≡ simulated input
IsOne (Obj width) input o = o ≡ meshed input
IsOne (Marks width) input o = o ≡ simulated_with_marks input
IsOne (Large width number size) input o = ⊥
IsOne (Host width) input o = o ≡ hosted input

-- ---- a scene and a script

-- an input has these halves, and the first gives a scene of these parts
pub record HasHalves (input text : List ℕ) (parts : Parts) (script : List ℕ) : Type 0 where
  pub halves : split input ≡ Some (text, script)
  pub scene : scene_in range text ≡ Ok parts
  pub short_text : length text ≤ length input
  pub short_script : length script ≤ length input

-- what a run comes to that needs the halves of its input, where `outcome` says what it does with them
abbrev pub on_halves : (List ℕ → Parts → List ℕ → Outcome) → List ℕ → Outcome
on_halves outcome input = settled (do
  halves ← halves_in (split input)
  parts ← scene_in range halves.0
  Ok (outcome halves.0 parts halves.1))

-- a call ended a run whose input has no such halves, whatever it would have done with them
abbrev pub StopsAtHalves : List ℕ → Option (List ℕ) → Option (List ℕ) → ℕ → ℕ → Status → Type 0
StopsAtHalves input old new before now status =
    (outcome : List ℕ → Parts → List ℕ → Outcome) → Does (on_halves outcome input) old new before now status

-- what `record` asks of its scene and its script: that they can be written in a log
pub record IsRecordable (text : List ℕ) (parts : Parts) (script : List ℕ) : Type 0 where
  pub short_text : length text < 2 ^ 32
  pub short_script : length script ≤ 2 ^ 31
  pub limit : parts.limit ≡ range

-- ---- a mesh, a scene and a script

-- the parts of a scene with the mesh of a text, or the text's or the mesh's fault
abbrev pub with_text : List ℕ → Parts → Result Parts ObjFault
with_text text parts = read text >>= λ mesh. with_mesh mesh parts

-- the faces of a mesh can be written, where its first vertex is particle `base`
pub record IsDrawable (base : ℕ) (mesh : ObjMesh) : Type 0 where
  pub is_mesh : IsMesh mesh
  pub few : base + length mesh.places < 2 ^ 31

-- a text gives a mesh, and the mesh with a scene's parts makes the whole
pub record HasMesh (text : List ℕ) (parts : Parts) (mesh : ObjMesh) (base : ℕ) (whole : Parts) : Type 0 where
  pub gives : read text ≡ Ok mesh
  pub first : base ≡ length parts.particles
  pub makes : with_mesh mesh parts ≡ Ok whole
  pub drawable : IsDrawable base mesh

-- ---- the scenes of a host

-- what a call does that ends a run whose scene n gives no parts
abbrev pub EndsForSceneIn : ℕ → SceneStop → Option (List ℕ) → Option (List ℕ) → ℕ → ℕ → Status → Type 0
EndsForSceneIn n NotText old new before now status = Does (stops_in n (stops SceneNotText [])) old new before now status
EndsForSceneIn n (Fault faults.NotToml) old new before now status = Does (stops_in n (stops SceneNotToml [])) old new before now status
EndsForSceneIn n (Fault (faults.Refused rule table position key)) old new before now status =
    Does (stops_in n (scene_refused (broken_at rule table position key))) old new before now status
EndsForSceneIn n (Fault faults.OutOfMemory) old new before now status = (status ≡ OutOfMemory) × Keeps old new

-- the parts of one more scene stand behind those so far
pub record AddsScene (text : List ℕ) (old new : List Parts) : Type 0 where
  pub parts : Parts
  pub accepted : scene_in range text ≡ Ok parts
  pub added : new ≡ old ++ parts ∷ []

-- a call ended a run whose scene n gives no parts, whatever it would have done with them
abbrev pub StopsInScene : ℕ → List ℕ → Option (List ℕ) → Option (List ℕ) → ℕ → ℕ → Status → Type 0
StopsInScene n text old new before now status =
    (then : Parts → Result Outcome Outcome)
    → Does (settled (with_fault (stops_in n) (scene_in range text) >>= then)) old new before now status

-- a call ended a run of which some scene gives no parts
abbrev pub StopsAtScenes : List (List ℕ) → Option (List ℕ) → Option (List ℕ) → ℕ → ℕ → Status → Type 0
StopsAtScenes texts old new before now status =
    (then : List Parts → Result Outcome Outcome) → Does (settled (scenes_in 0 texts >>= then)) old new before now status

-- what `host` asks of its scenes and its lines
pub record IsHostable (scenes : List Parts) (lines : List ℕ) : Type 0 where
  pub some : 0 < length scenes
  pub few : length scenes ≤ 16
  pub short : length lines ≤ 2 ^ 31
