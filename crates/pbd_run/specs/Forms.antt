-- What each form comes to, by what it borrows. No width has a part in it.
use Rattle.std.specs.Prelude.{ℕ, ◌≤◌, ◌^◌, List, [], length, map, Result, Ok, Err}
use Rattle.pbd_world.specs.declared.parts.Parts.{Parts}
use Rattle.pbd_world.specs.World.{opened}
use Rattle.pbd_script.specs.Commands.{commands}
use Rattle.pbd_obj.specs.declared.mesh.ObjMesh.{ObjMesh}
use Rattle.pbd_log.specs.declared.entry.Entry.{Entry}
use Rattle.pbd_session.specs.Replaying.{replayed}
use Rattle.pbd_outcome.specs.Outcome.{Outcome, obj_outcome, record_outcome, replay_outcome, session_outcome, summary_outcome, marks_outcome}
use Rattle.pbd_outcome.specs.Outcome.{host_outcome}
use Rattle.pbd_outcome.specs.declared.job.Job.{Job}
use Rattle.pbd_outcome.specs.declared.job.Job.TheVariants.{Simulate, Record, Scramble, Marks}
use Rattle.pbd_outcome.specs.declared.status.Status.{Status}
use Rattle.pbd_outcome.specs.declared.status.Status.TheVariants.{WriteFault}
use Rattle.pbd_run.specs.declared.inputs.ScriptJob.{ScriptJob}
use Rattle.pbd_run.specs.declared.inputs.ScriptJob.TheVariants as scripts
use Rattle.pbd_run.specs.declared.task.Task.{Task}
use Rattle.pbd_run.specs.declared.task.Task.TheVariants as tasks
use Rattle.pbd_run.specs.Calls.{IsDrawable, IsRecordable}
use Rattle.pbd_marks.specs.Marked.{unmarked}
use Rattle.pbd_marks.specs.Script.{mark_commands}
use Rattle.pbd_script.specs.Lines.{pieces}
use Rattle.pbd_host.specs.Tagged.{requests_of}

-- a script on a scene
unfoldable pub simulate_on : Parts → List ℕ → Outcome
simulate_on scene script = session_outcome (opened scene) (commands script)

-- the same in a log, which has the bytes of the scene too
unfoldable pub record_on : List ℕ → Parts → List ℕ → Outcome
record_on text scene script = record_outcome text (opened scene) (commands script)

-- a script on a scene that has a mesh, whose first vertex is particle `base`
unfoldable pub obj_on : ℕ → ObjMesh → Parts → List ℕ → Outcome
obj_on base mesh scene script = obj_outcome base mesh (opened scene) (commands script)

-- a script with marks on a scene
unfoldable pub marks_on : Parts → List ℕ → Outcome
marks_on scene script = marks_outcome (unmarked (opened scene)) (mark_commands script)

-- the entries of a log on its scene
unfoldable pub replay_on : Parts → List Entry → Outcome
replay_on scene entries = replay_outcome (replayed (opened scene) entries)

-- thirty steps of a scene that was generated from a number and a size
unfoldable pub large_on : ℕ → ℕ → Parts → Outcome
large_on number size scene = summary_outcome number size (opened scene) []

-- tagged lines for the sessions of some scenes
unfoldable pub host_on : List Parts → List ℕ → Outcome
host_on scenes lines = host_outcome (map opened scenes) (requests_of (length scenes) (pieces lines))

-- ---- what is done on the session of a scene

abbrev pub task_on : Task → Parts → Outcome
task_on (tasks.Simulate script) scene = simulate_on scene script.now
task_on (tasks.Record text script) scene = record_on text.now scene script.now
task_on (tasks.Obj mesh base script) scene = obj_on base mesh.now scene script.now
task_on (tasks.Replay log) scene = replay_on scene log.entries
task_on (tasks.Large large) scene = large_on large.number large.size scene

-- what a task asks of its scene
abbrev pub IsReady : Task → Parts → Type 0
IsReady (tasks.Simulate script) scene = length script.now ≤ 2 ^ 31
IsReady (tasks.Record text script) scene = IsRecordable text.now scene script.now
IsReady (tasks.Obj mesh base script) scene = IsDrawable base mesh.now × (length script.now ≤ 2 ^ 31)
IsReady task scene = Unit {0}

-- the status of a run that came to such an end, or of one whose writes failed
abbrev pub status_in : {T E : Type 0} → (T → Status) → Result T E → Status
status_in status (Ok end) = status end
status_in status (Err failed) = WriteFault

-- ---- jobs that run a script on a scene

abbrev pub job_of : ScriptJob → Job
job_of (scripts.Simulate width) = Simulate width
job_of (scripts.Record width) = Record width
job_of (scripts.Scramble seed) = Scramble seed
job_of (scripts.Marks width) = Marks width

-- what such a job comes to, by the halves of its input
abbrev pub script_on : ScriptJob → List ℕ → Parts → List ℕ → Outcome
script_on (scripts.Simulate width) text scene script = simulate_on scene script
script_on (scripts.Record width) text scene script = record_on text scene script
script_on (scripts.Scramble seed) text scene script = simulate_on scene script
script_on (scripts.Marks width) text scene script = marks_on scene script
