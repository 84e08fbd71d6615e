-- What a run writes and answers, by the job and the input. No width has a part in it.
use Rattle.std.specs.Prelude.{◌≡◌, ◌⊎◌, ℕ, ◌+◌, ◌<◌, ◌≤◌, ◌==◌, ◌^◌, ℤ, pos, if◌then◌else◌, nat_le, List, [], ◌∷◌, length, drop, map}
use Rattle.std.specs.Prelude.{Option, Some, None, Result, Ok, Err}
use Rattle.std.specs.Str.{is_utf8}
use Rattle.toml.specs.Data.{Members}
use Rattle.toml.specs.Parse.{parse_document}
use Rattle.pbd_world.specs.declared.parts.Parts.{Parts}
use Rattle.pbd_world.specs.declared.command.Command.{Command}
use Rattle.pbd_world.specs.Outcomes.{◌>>=◌, with_fault}
use Rattle.pbd_world.specs.World.{World, opened}
use Rattle.pbd_world.specs.declared.command.Command.TheVariants.{Step}
use Rattle.pbd_world.specs.declared.command.Reply.{Reply}
use Rattle.pbd_world.specs.Meaning.{after, reply}
use Rattle.pbd_world.specs.Session.{is_refused, session_text, refused_count}
use Rattle.pbd_scene.specs.Checks.{Broken, Checked}
use Rattle.pbd_scene.specs.Scene.{scene_of}
use Rattle.pbd_script.specs.Commands.{commands}
use Rattle.pbd_obj.specs.declared.mesh.ObjMesh.{ObjMesh}
use Rattle.pbd_obj.specs.declared.mesh.ObjFault.{ObjFault}
use Rattle.pbd_obj.specs.MeshLinks.{with_mesh}
use Rattle.pbd_obj.specs.Reading.{read}
use Rattle.pbd_host.specs.declared.request.Request.{Request}
use Rattle.pbd_host.specs.Hosted.{hosted_refused, hosted_text}
use Rattle.pbd_host.specs.Tagged.{requests_of}
use Rattle.pbd_log.specs.Logs.{Log, Spells, IsFault}
use Rattle.pbd_session.specs.declared.ending.ReplayEnd.{ReplayEnd}
use Rattle.pbd_session.specs.declared.ending.ReplayEnd.TheVariants as ends
use Rattle.pbd_session.specs.Recording.{entries_of, log_bytes}
use Rattle.pbd_session.specs.Replaying.{Replay, replayed}
use Rattle.pbd_marks.specs.declared.command.MarkCommand.{MarkCommand}
use Rattle.pbd_marks.specs.Marked.{Marked, marked_text, marked_refused_count, unmarked}
use Rattle.pbd_marks.specs.Script.{mark_commands}
use Rattle.pbd_outcome.specs.declared.job.Job.{Job}
use Rattle.pbd_outcome.specs.declared.job.Job.TheVariants as jobs
use Rattle.pbd_outcome.specs.declared.status.Status.{Status}
use Rattle.pbd_outcome.specs.declared.status.Status.TheVariants.{Done, SomeRefused, Usage, InputTooLong, NoScript, SceneNotText}
use Rattle.pbd_outcome.specs.declared.status.Status.TheVariants.{SceneNotToml, SceneRefused, LogRefused, Mismatch, ObjRefused}
use Rattle.pbd_outcome.specs.declared.status.Status.TheVariants.{TooManyScenes}
use Rattle.pbd_outcome.specs.Generated.{generated, summary}
use Rattle.pbd_outcome.specs.ObjText.{obj_line, obj_session_text}
use Rattle.pbd_outcome.specs.Split.{split, host_split}
use Rattle.pbd_outcome.specs.Statuses.{status_line, refused_line, log_line, line_in}

-- the text and the status of a run, and what it leaves of the input
pub record Outcome : Type 0 where
  pub text : List ℕ
  pub status : Status
  pub rest : List ℕ

-- how many bytes an input with a scene and a script may have
unfoldable pub most : ℕ
most = 16777216

-- how many bytes a log may have
unfoldable pub most_of_log : ℕ
most_of_log = 134217728

-- the greatest size of a coordinate, but in a log with another limit
abbrev pub range : ℤ
range = pos (2 ^ 29)

-- the limit of a log of version 1, which doesn't say it
abbrev pub old_limit : ℤ
old_limit = pos 268435456

-- the run stops, with the line of its status
abbrev pub stops : Status → List ℕ → Outcome
stops status rest = record { text = status_line status; status = status; rest = rest }

-- the outcome that a run comes to, early or at its end
abbrev pub settled : Result Outcome Outcome → Outcome
settled (Ok o) = o
settled (Err o) = o

-- ---- a scene and a script

-- the scene's bytes and the script, or how the run stops
abbrev pub halves_in : Option (List ℕ × List ℕ) → Result (List ℕ × List ℕ) Outcome
halves_in (Some halves) = Ok halves
halves_in None = Err (stops NoScript [])

abbrev pub scene_refused : Broken → Outcome
scene_refused broken = record { text = refused_line broken; status = SceneRefused; rest = [] }

-- the first broken rule stops the run
abbrev pub parts_in : Checked Parts → Result Parts Outcome
parts_in (Ok parts) = Ok parts
parts_in (Err broken) = Err (scene_refused broken)

abbrev pub tree_in : ℤ → Option Members → Result Parts Outcome
tree_in limit (Some tree) = parts_in (scene_of limit tree)
tree_in limit None = Err (stops SceneNotToml [])

-- the parts of a scene's bytes, read with a limit, or how the run stops
unfoldable pub scene_in : ℤ → List ℕ → Result Parts Outcome
scene_in limit bytes = if is_utf8 bytes then tree_in limit (parse_document bytes) else Err (stops SceneNotText [])

-- the status of a run with so many refused commands
abbrev pub ends_as : ℕ → Status
ends_as refused = if refused == 0 then Done else SomeRefused

-- the replies to the commands
abbrev pub session_outcome : World → List Command → Outcome
session_outcome w cs = record { text = session_text w cs; status = ends_as (refused_count w cs); rest = [] }

-- the log of the commands
abbrev pub record_outcome : List ℕ → World → List Command → Outcome
record_outcome scene w cs = record { text = log_bytes range scene (entries_of w cs); status = ends_as (refused_count w cs); rest = [] }

unfoldable pub simulated : List ℕ → Outcome
simulated input = settled (do
  halves ← halves_in (split input)
  parts ← scene_in range halves.0
  Ok (session_outcome (opened parts) (commands halves.1)))

unfoldable pub recorded : List ℕ → Outcome
recorded input = settled (do
  halves ← halves_in (split input)
  parts ← scene_in range halves.0
  Ok (record_outcome halves.0 (opened parts) (commands halves.1)))

-- ---- a mesh, a scene and a script

abbrev pub obj_refused : ObjFault → Outcome
obj_refused fault = record { text = obj_line fault; status = ObjRefused; rest = [] }

-- a mesh or parts, or how the run stops
abbrev pub mesh_in : {A : Type 0} → Result A ObjFault → Result A Outcome
mesh_in (Ok a) = Ok a
mesh_in (Err fault) = Err (obj_refused fault)

-- the replies as OBJ text, where the first vertex of the mesh is particle `base`
abbrev pub obj_outcome : ℕ → ObjMesh → World → List Command → Outcome
obj_outcome base mesh w cs = record { text = obj_session_text base mesh w cs; status = ends_as (refused_count w cs); rest = [] }

-- The mesh stands before the first line that is `%%`, and what follows that line has the scene and the script. The mesh is
-- looked at after the scene, and its particles and links stand after those of the scene.
unfoldable pub meshed : List ℕ → Outcome
meshed input = settled (do
  outer ← halves_in (split input)
  halves ← halves_in (split outer.1)
  parts ← scene_in range halves.0
  mesh ← mesh_in (read outer.0)
  whole ← mesh_in (with_mesh mesh parts)
  Ok (obj_outcome (length parts.particles) mesh (opened whole) (commands halves.1)))

-- ---- a scene and a script with marks

-- the replies to the commands
abbrev pub marks_outcome : Marked → List MarkCommand → Outcome
marks_outcome m cs = record { text = marked_text m cs; status = ends_as (marked_refused_count m cs); rest = [] }

unfoldable pub simulated_with_marks : List ℕ → Outcome
simulated_with_marks input = settled (do
  halves ← halves_in (split input)
  parts ← scene_in range halves.0
  Ok (marks_outcome (unmarked (opened parts)) (mark_commands halves.1)))

-- ---- a log

abbrev pub replay_status : ReplayEnd → Status
replay_status (ends.Done refused) = ends_as refused
replay_status (ends.Mismatch entry field recorded found) = Mismatch

-- the replies of the entries up to the first that differs, and its line
abbrev pub replay_outcome : Replay → Outcome
replay_outcome r = record { text = r.text; status = replay_status r.ended; rest = [] }

-- a log on its scene, which is read with the log's limit
unfoldable pub log_outcome : Log → Outcome
log_outcome log = settled (do
  parts ← scene_in log.limit log.scene
  Ok (replay_outcome (replayed (opened parts) log.entries)))

abbrev pub log_refused : ℕ → Outcome
log_refused offset = record { text = log_line offset; status = LogRefused; rest = [] }

-- The bytes are a log, and the outcome is that of its replay; or they are none, and it tells where they go wrong.
abbrev pub IsReplayed : List ℕ → Outcome → Type 0
IsReplayed input o =
    ((log : Log) × Spells input log.version log.limit log.scene log.entries × (o ≡ log_outcome log))
    ⊎ ((offset : ℕ) × IsFault input offset × (o ≡ log_refused offset))

-- ---- several scenes, each with a session, and tagged lines

-- the scenes' bytes and the tagged lines, or how the run stops
abbrev pub host_halves_in : Option (List (List ℕ) × List (List ℕ)) → Result (List (List ℕ) × List (List ℕ)) Outcome
host_halves_in (Some halves) = Ok halves
host_halves_in None = Err (stops NoScript [])

-- more than 16 scenes stop the run
abbrev pub few_in : List (List ℕ) → Result (List (List ℕ)) Outcome
few_in texts = if nat_le (length texts) 16 then Ok texts else Err (stops TooManyScenes [])

-- how a run stops in scene n, which its line tells
abbrev pub stops_in : ℕ → Outcome → Outcome
stops_in n o = record o { text = line_in n o.text }

-- the parts of the scenes from number n on, or how the run stops in the first that has none
unfoldable pub scenes_in : ℕ → List (List ℕ) → Result (List Parts) Outcome
scenes_in n [] = Ok []
scenes_in n (text ∷ texts) = do
  parts ← with_fault (stops_in n) (scene_in range text)
  more ← scenes_in (n + 1) texts
  Ok (parts ∷ more)

-- the replies of the sessions
abbrev pub host_outcome : List World → List Request → Outcome
host_outcome ws rs = record { text = hosted_text ws rs; status = ends_as (hosted_refused ws rs); rest = [] }

unfoldable pub hosted : List ℕ → Outcome
hosted input = settled (do
  halves ← host_halves_in (host_split input)
  texts ← few_in halves.0
  scenes ← scenes_in 0 texts
  Ok (host_outcome (map opened scenes) (requests_of (length scenes) halves.1)))

-- ---- a generated scene

abbrev pub step_status : Reply → Status
step_status r = if is_refused r then SomeRefused else Done

-- thirty steps of a world, and what came of them
unfoldable pub summary_outcome : ℕ → ℕ → World → List ℕ → Outcome
summary_outcome number size w rest = record {
  text = summary number size (after w (Step 30)) (reply w (Step 30));
  status = step_status (reply w (Step 30));
  rest = rest;
}

abbrev pub large_outcome : ℕ → ℕ → List ℕ → Outcome
large_outcome number size rest = summary_outcome number size (opened (generated number size)) rest

-- ---- all forms

-- One byte more than the form allows stops the run, which leaves what follows it. Else the whole input decides.
abbrev pub IsWithin : ℕ → (Outcome → Type 0) → List ℕ → Outcome → Type 0
IsWithin limit IsWhole input o =
    ((limit < length input) × (o ≡ stops InputTooLong (drop (limit + 1) input)))
    ⊎ ((length input ≤ limit) × IsWhole o)

-- Words that are no form read nothing.
abbrev pub IsOutcome : Option Job → List ℕ → Outcome → Type 0
IsOutcome None input o = o ≡ stops Usage input
IsOutcome (Some (jobs.Simulate width)) input o = IsWithin most (λ o. o ≡ simulated input) input o
IsOutcome (Some (jobs.Record width)) input o = IsWithin most (λ o. o ≡ recorded input) input o
IsOutcome (Some (jobs.Replay width)) input o = IsWithin most_of_log (IsReplayed input) input o
IsOutcome (Some (jobs.Large width number size)) input o = o ≡ large_outcome number size input
IsOutcome (Some (jobs.Scramble seed)) input o = IsWithin most (λ o. o ≡ simulated input) input o
IsOutcome (Some (jobs.Obj width)) input o = IsWithin most (λ o. o ≡ meshed input) input o
IsOutcome (Some (jobs.Marks width)) input o = IsWithin most (λ o. o ≡ simulated_with_marks input) input o
IsOutcome (Some (jobs.Host width)) input o = IsWithin most (λ o. o ≡ hosted input) input o
