-- What each form comes to leaves nothing of what was read, and is neither a fault of reading nor one of the words.
use Rattle.std.proofs.Common.{◌≡◌, refl, ℕ, Bool, true, false, cond, List, [], Option, Some, None, Result, Ok, Err, inl, inr}
use Rattle.std.specs.Prelude.{◌==◌, ◌+◌, ◌∷◌, ℤ, length, map, nat_le}
use Rattle.std.specs.Str.{is_utf8}
use Rattle.toml.specs.Data.{Members}
use Rattle.toml.specs.Parse.{parse_document}
use Rattle.pbd_world.specs.declared.parts.Parts.{Parts}
use Rattle.pbd_world.specs.declared.command.Command.TheVariants.{Step}
use Rattle.pbd_world.specs.Meaning.{reply}
use Rattle.pbd_world.specs.Outcomes.{◌>>=◌, with_fault}
use Rattle.pbd_world.specs.Session.{is_refused, refused_count}
use Rattle.pbd_world.specs.World.{opened}
use Rattle.pbd_scene.specs.Checks.{Checked}
use Rattle.pbd_scene.specs.Scene.{scene_of}
use Rattle.pbd_script.specs.Commands.{commands}
use Rattle.pbd_obj.specs.declared.mesh.ObjFault.{ObjFault}
use Rattle.pbd_obj.specs.MeshLinks.{with_mesh}
use Rattle.pbd_obj.specs.Reading.{read}
use Rattle.pbd_host.specs.Hosted.{hosted_refused}
use Rattle.pbd_host.specs.Tagged.{requests_of}
use Rattle.pbd_log.specs.Logs.{Log}
use Rattle.pbd_session.specs.declared.ending.ReplayEnd.{ReplayEnd}
use Rattle.pbd_session.specs.declared.ending.ReplayEnd.TheVariants as ends
use Rattle.pbd_session.specs.Replaying.{replayed}
use Rattle.pbd_marks.specs.Marked.{marked_refused_count, unmarked}
use Rattle.pbd_marks.specs.Script.{mark_commands}
use Rattle.pbd_outcome.specs.declared.status.Status.{Status}
use Rattle.pbd_outcome.specs.declared.status.Status.TheVariants.{Done, Usage, SomeRefused, ReadFault, SceneNotText, TooManyScenes}
use Rattle.pbd_outcome.specs.Generated.{generated}
use Rattle.pbd_outcome.specs.Split.{split, host_split}
use Rattle.pbd_outcome.specs.Outcome.{IsReplayed, Outcome, halves_in, large_outcome, log_outcome, mesh_in, meshed, parts_in, range}
use Rattle.pbd_outcome.specs.Outcome.{recorded, replay_status, scene_in, settled, simulated, stops, summary_outcome, tree_in}
use Rattle.pbd_outcome.specs.Outcome.{simulated_with_marks, few_in, host_halves_in, hosted, scenes_in, stops_in}
use Rattle.pbd_outcome.specs.Outcome.{marks_outcome, record_outcome, session_outcome}
use Rattle.pbd_run.specs.Calls.{on_halves}

-- a status that an input may lead to: neither a fault of reading nor one of the words
abbrev pub IsEnd : Status → Type 0
IsEnd ReadFault = ⊥
IsEnd Usage = ⊥
IsEnd _ = Unit {0}

-- an outcome that leaves nothing and has such a status
pub record IsWhole (o : Outcome) : Type 0 where
  pub rest : o.rest ≡ []
  pub ended : IsEnd o.status

abbrev StopsWhole : {A : Type 0} → Result A Outcome → Type 0
StopsWhole (Ok a) = Unit {0}
StopsWhole (Err o) = IsWhole o

then_whole : {A : Type 0} (r : Result A Outcome) (then : A → Result Outcome Outcome) → StopsWhole r → ((a : A) → IsWhole (settled (then a)))
    → IsWhole (settled (r >>= then))
then_whole (Ok a) then stop whole = whole a
then_whole (Err o) then stop whole = stop

halves_whole : (h : Option (List ℕ × List ℕ)) → StopsWhole (halves_in h)
halves_whole (Some h) = tt
halves_whole None = record { rest = refl; ended = tt }

parts_whole : (c : Checked Parts) → StopsWhole (parts_in c)
parts_whole (Ok parts) = tt
parts_whole (Err b) = record { rest = refl; ended = tt }

tree_whole : (limit : ℤ) (tree : Option Members) → StopsWhole (tree_in limit tree)
tree_whole limit None = record { rest = refl; ended = tt }
tree_whole limit (Some t) = parts_whole (scene_of limit t)

text_whole : (b : Bool) (limit : ℤ) (tree : Option Members) → StopsWhole (cond b (tree_in limit tree) (Err (stops SceneNotText [])))
text_whole true limit tree = tree_whole limit tree
text_whole false limit tree = record { rest = refl; ended = tt }

scene_whole : (limit : ℤ) (bytes : List ℕ) → StopsWhole (scene_in limit bytes)
unfolding scene_in
scene_whole limit bytes = text_whole (is_utf8 bytes) limit (parse_document bytes)

either_ends : (b : Bool) → IsEnd (cond b Done SomeRefused)
either_ends true = tt
either_ends false = tt

replay_ends : (end : ReplayEnd) → IsEnd (replay_status end)
replay_ends (ends.Done refused) = either_ends (refused == 0)
replay_ends (ends.Mismatch entry field recorded found) = tt

-- what becomes of a scene and a script
on_halves_whole : (outcome : List ℕ → Parts → List ℕ → Outcome)
    → ((text : List ℕ) (parts : Parts) (script : List ℕ) → IsWhole (outcome text parts script)) → (input : List ℕ)
    → IsWhole (on_halves outcome input)
on_halves_whole outcome whole input =
    then_whole (halves_in (split input)) _ (halves_whole (split input)) (λ h.
    then_whole (scene_in range h.0) _ (scene_whole range h.0) (λ parts. whole h.0 parts h.1))

pub simulated_whole : (input : List ℕ) → IsWhole (simulated input)
unfolding simulated
simulated_whole input = on_halves_whole (λ text parts script. session_outcome (opened parts) (commands script))
    (λ text parts script. record { rest = refl; ended = either_ends (refused_count (opened parts) (commands script) == 0) }) input

pub recorded_whole : (input : List ℕ) → IsWhole (recorded input)
unfolding recorded
recorded_whole input = on_halves_whole (λ text parts script. record_outcome text (opened parts) (commands script))
    (λ text parts script. record { rest = refl; ended = either_ends (refused_count (opened parts) (commands script) == 0) }) input

pub marks_whole : (input : List ℕ) → IsWhole (simulated_with_marks input)
unfolding simulated_with_marks
marks_whole input = on_halves_whole (λ text parts script. marks_outcome (unmarked (opened parts)) (mark_commands script))
    (λ text parts script. record {
      rest = refl;
      ended = either_ends (marked_refused_count (unmarked (opened parts)) (mark_commands script) == 0);
    }) input

mesh_whole : {A : Type 0} (r : Result A ObjFault) → StopsWhole (mesh_in r)
mesh_whole (Ok a) = tt
mesh_whole (Err fault) = record { rest = refl; ended = tt }

pub meshed_whole : (input : List ℕ) → IsWhole (meshed input)
unfolding meshed
meshed_whole input =
    then_whole (halves_in (split input)) _ (halves_whole (split input)) (λ outer.
    then_whole (halves_in (split outer.1)) _ (halves_whole (split outer.1)) (λ h.
    then_whole (scene_in range h.0) _ (scene_whole range h.0) (λ parts.
    then_whole (mesh_in (read outer.0)) _ (mesh_whole (read outer.0)) (λ mesh.
    then_whole (mesh_in (with_mesh mesh parts)) _ (mesh_whole (with_mesh mesh parts)) (λ whole.
    record { rest = refl; ended = either_ends (refused_count (opened whole) (commands h.1) == 0) })))))

log_whole : (log : Log) → IsWhole (log_outcome log)
unfolding log_outcome
log_whole log =
    then_whole (scene_in log.limit log.scene) _ (scene_whole log.limit log.scene) (λ parts.
    record { rest = refl; ended = replay_ends (replayed (opened parts) log.entries).ended })

pub replayed_whole : (input : List ℕ) (o : Outcome) → IsReplayed input o → IsWhole o
replayed_whole input o (inl (log, spells, is)) = rw is (log_whole log)
replayed_whole input o (inr (offset, fault, is)) = rw is (record { rest = refl; ended = tt })

-- ---- several scenes

host_halves_whole : (h : Option (List (List ℕ) × List (List ℕ))) → StopsWhole (host_halves_in h)
host_halves_whole (Some h) = tt
host_halves_whole None = record { rest = refl; ended = tt }

either_whole : {A : Type 0} (b : Bool) (r t : Result A Outcome) → StopsWhole r → StopsWhole t → StopsWhole (cond b r t)
either_whole true r t first second = first
either_whole false r t first second = second

few_whole : (texts : List (List ℕ)) → StopsWhole (few_in texts)
few_whole texts = either_whole (nat_le (length texts) 16) (Ok texts) (Err (stops TooManyScenes [])) tt (record { rest = refl; ended = tt })

told_whole : {A : Type 0} (n : ℕ) (r : Result A Outcome) → StopsWhole r → StopsWhole (with_fault (stops_in n) r)
told_whole n (Ok a) whole = tt
told_whole n (Err o) whole = record { rest = whole.rest; ended = whole.ended }

more_whole : {A B : Type 0} (r : Result A Outcome) (then : A → Result B Outcome) → StopsWhole r → ((a : A) → StopsWhole (then a))
    → StopsWhole (r >>= then)
more_whole (Ok a) then stop whole = whole a
more_whole (Err o) then stop whole = stop

scenes_whole : (n : ℕ) (texts : List (List ℕ)) → StopsWhole (scenes_in n texts)
unfolding scenes_in
scenes_whole n [] = tt
scenes_whole n (text ∷ texts) =
    more_whole (with_fault (stops_in n) (scene_in range text)) _ (told_whole n (scene_in range text) (scene_whole range text)) (λ parts.
    more_whole (scenes_in (n + 1) texts) _ (scenes_whole (n + 1) texts) (λ more. tt))

pub hosted_whole : (input : List ℕ) → IsWhole (hosted input)
unfolding hosted
hosted_whole input =
    then_whole (host_halves_in (host_split input)) _ (host_halves_whole (host_split input)) (λ h.
    then_whole (few_in h.0) _ (few_whole h.0) (λ texts.
    then_whole (scenes_in 0 texts) _ (scenes_whole 0 texts) (λ scenes.
    record { rest = refl; ended = either_ends (hosted_refused (map opened scenes) (requests_of (length scenes) h.1) == 0) })))

-- ---- a generated scene

pub large_rest : (number size : ℕ) (input : List ℕ) → record (large_outcome number size []) { rest = input }
    ≡ large_outcome number size input
unfolding summary_outcome
large_rest number size input = refl

step_ends : (b : Bool) → IsEnd (cond b SomeRefused Done)
step_ends true = tt
step_ends false = tt

pub large_ends : (number size : ℕ) → IsEnd (large_outcome number size []).status
unfolding summary_outcome
large_ends number size = step_ends (is_refused (reply (opened (generated number size)) (Step 30)))
