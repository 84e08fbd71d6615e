-- How a run over a session did.
use Rattle.std.proofs.Common.{◌≡◌, ◌∙◌, sym, ap, subst, refl, ℕ, Bool, true, false, cond, List, [], Option, Result, Ok, Err, IfOk}
use Rattle.std.specs.Prelude.{◌==◌, length, map}
use Rattle.std.proofs.lemmas.List.{length-map}
use Rattle.std.specs.Io.KnownBytes.{Appends}
use Rattle.pbd_io.specs.Causes.{HasCause}
use Rattle.pbd_io.specs.Pieces.{WritesPiece}
use Rattle.pbd_world.specs.declared.command.Command.TheVariants.{Step}
use Rattle.pbd_world.specs.declared.command.Reply.{Reply}
use Rattle.pbd_world.specs.declared.parts.Parts.{Parts}
use Rattle.pbd_world.specs.Meaning.{after, reply}
use Rattle.pbd_world.specs.Session.{is_refused, refused_count, session_text}
use Rattle.pbd_world.specs.World.{World, opened}
use Rattle.pbd_script.specs.Commands.{commands}
use Rattle.pbd_script.specs.Lines.{pieces}
use Rattle.pbd_obj.specs.declared.mesh.ObjMesh.{ObjMesh}
use Rattle.pbd_host.specs.declared.request.Request.{Request}
use Rattle.pbd_host.specs.Hosted.{hosted_refused, hosted_text}
use Rattle.pbd_host.specs.Tagged.{requests_of}
use Rattle.pbd_log.specs.declared.entry.Entry.{Entry}
use Rattle.pbd_session.specs.declared.ending.ReplayEnd.{ReplayEnd}
use Rattle.pbd_session.specs.declared.ending.ReplayEnd.TheVariants as ends
use Rattle.pbd_session.specs.declared.ending.RunEnd.{RunEnd}
use Rattle.pbd_session.specs.Recording.{entries_of, log_bytes}
use Rattle.pbd_session.specs.Replaying.{replayed}
use Rattle.pbd_marks.specs.Marked.{Marked, marked_refused_count, marked_text, unmarked}
use Rattle.pbd_marks.specs.Script.{mark_commands}
use Rattle.pbd_outcome.specs.declared.status.Status.{Status}
use Rattle.pbd_outcome.specs.declared.status.Status.TheVariants.{Done, SomeRefused}
use Rattle.pbd_outcome.specs.Generated.{summary}
use Rattle.pbd_outcome.specs.ObjText.{obj_session_text}
use Rattle.pbd_outcome.specs.Outcome.{Outcome, ends_as, marks_outcome, obj_outcome, range, record_outcome, replay_outcome, replay_status}
use Rattle.pbd_outcome.specs.Outcome.{session_outcome, host_outcome, step_status, summary_outcome}
use Rattle.pbd_run.specs.Calls.{Does}
use Rattle.pbd_run.specs.Forms.{large_on, marks_on, obj_on, record_on, replay_on, simulate_on, host_on, status_in}

-- ---- with which status a run ends

-- a status that says how a run ended all of whose writes came through
abbrev IsEnding : Status → Type 0
IsEnding s = (o : Outcome) (a b : Option (List ℕ)) (m n : ℕ) → o.status ≡ s → Appends a b o.text → Does o a b m n s

either_ending : (z : Bool) (s t : Status) → IsEnding s → IsEnding t → IsEnding (cond z s t)
either_ending true s t first second = first
either_ending false s t first second = second

done_ending : IsEnding Done
done_ending = λ o a b m n is wrote. (sym is, wrote)

refused_ending : IsEnding SomeRefused
refused_ending = λ o a b m n is wrote. (sym is, wrote)

script_ending : (k : ℕ) → IsEnding (ends_as k)
script_ending k = either_ending (k == 0) Done SomeRefused done_ending refused_ending

replay_ending : (e : ReplayEnd) → IsEnding (replay_status e)
replay_ending (ends.Done refused) = script_ending refused
replay_ending (ends.Mismatch entry field recorded found) = λ o a b m n is wrote. (sym is, wrote)

steps_ending : (r : Reply) → IsEnding (step_status r)
steps_ending r = either_ending (is_refused r) SomeRefused Done refused_ending done_ending

-- ---- what a run tells

-- The run wrote this text, or a prefix of it where a write failed; k is what its end tells.
pub record Told {T E A : Type 0} (r : Result T E) (end : T → A) (text : List ℕ) (k : A) (a b : Option (List ℕ)) (m n : ℕ) : Type 0 where
  pub bytes : WritesPiece a b r text
  pub ended : IfOk r (λ t. end t ≡ k)
  pub cause : HasCause m n r

-- the same, with other words for the text and for the end
pub told_as : {T E A : Type 0} {r : Result T E} {end : T → A} {text said : List ℕ} {k j : A} {a b : Option (List ℕ)} {m n : ℕ}
    → text ≡ said → k ≡ j → Told r end text k a b m n → Told r end said j a b m n
told_as same alike told = rw (← same, ← alike) told

did : {T E A : Type 0} (o : Outcome) (r : Result T E) (end : T → A) (status : A → Status) (k : A) (a b : Option (List ℕ)) (m n : ℕ)
    → ((j : A) → IsEnding (status j)) → o.status ≡ status k → Told r end o.text k a b m n
    → Does o a b m n (status_in (λ t. status (end t)) r)
did o (Ok t) end status k a b m n endings same told = endings (end t) o a b m n (same ∙ ap status (sym told.ended)) told.bytes
did o (Err e) end status k a b m n endings same told = (told.cause.failed, told.bytes)

-- What a run starts from is v, which is the w of its outcome. This is stated over any v and w, so that no step of an opened world
-- is computed.
did_from : {W T E A : Type 0} (outcome : W → Outcome) (v w : W) (r : Result T E) (end : T → A) (status : A → Status) (k : A) (s : Status)
    (a b : Option (List ℕ)) (m n : ℕ) → ((j : A) → IsEnding (status j)) → v ≡ w → (outcome v).status ≡ status k
    → s ≡ status_in (λ t. status (end t)) r → Told r end (outcome v).text k a b m n → Does (outcome w) a b m n s
did_from {W = W} outcome v w r end status k s a b m n endings is same ends told =
    subst (λ (x : W). Does (outcome x) a b m n s) is
    (subst (λ (t : Status). Does (outcome v) a b m n t) (sym ends) (did (outcome v) r end status k a b m n endings same told))

abbrev pub refusals : RunEnd → ℕ
refusals end = end.refused

abbrev pub script_status : RunEnd → Status
script_status end = ends_as end.refused

-- a run of commands, which counts the refused ones
counted_from : {W E : Type 0} (outcome : W → Outcome) (count : W → ℕ) (v w : W) (r : Result RunEnd E) (s : Status)
    (a b : Option (List ℕ)) (m n : ℕ) → v ≡ w → (outcome v).status ≡ ends_as (count v) → s ≡ status_in script_status r
    → Told r refusals (outcome v).text (count v) a b m n → Does (outcome w) a b m n s
counted_from outcome count v w r s a b m n is same ends told =
    did_from outcome v w r refusals ends_as (count v) s a b m n script_ending is same ends told

-- ---- forms on a scene

-- The session's world v is the one that the scene opens.

pub script_did : {E : Type 0} (v : World) (scene : Parts) (script : List ℕ) (r : Result RunEnd E) (s : Status) (a b : Option (List ℕ))
    (m n : ℕ) → v ≡ opened scene → s ≡ status_in script_status r
    → Told r refusals (session_text v (commands script)) (refused_count v (commands script)) a b m n
    → Does (simulate_on scene script) a b m n s
unfolding simulate_on
script_did v scene script r s a b m n is ends told = counted_from (λ w. session_outcome w (commands script))
    (λ w. refused_count w (commands script)) v (opened scene) r s a b m n is refl ends told

pub marks_did : {E : Type 0} (v : Marked) (scene : Parts) (script : List ℕ) (r : Result RunEnd E) (s : Status) (a b : Option (List ℕ))
    (m n : ℕ) → v ≡ unmarked (opened scene) → s ≡ status_in script_status r
    → Told r refusals (marked_text v (mark_commands script)) (marked_refused_count v (mark_commands script)) a b m n
    → Does (marks_on scene script) a b m n s
unfolding marks_on
marks_did v scene script r s a b m n is ends told = counted_from (λ w. marks_outcome w (mark_commands script))
    (λ w. marked_refused_count w (mark_commands script)) v (unmarked (opened scene)) r s a b m n is refl ends told

pub obj_did : {E : Type 0} (base : ℕ) (mesh : ObjMesh) (v : World) (scene : Parts) (script : List ℕ) (r : Result RunEnd E) (s : Status)
    (a b : Option (List ℕ)) (m n : ℕ) → v ≡ opened scene → s ≡ status_in script_status r
    → Told r refusals (obj_session_text base mesh v (commands script)) (refused_count v (commands script)) a b m n
    → Does (obj_on base mesh scene script) a b m n s
unfolding obj_on
obj_did base mesh v scene script r s a b m n is ends told = counted_from (λ w. obj_outcome base mesh w (commands script))
    (λ w. refused_count w (commands script)) v (opened scene) r s a b m n is refl ends told

-- a log whose limit is the range
of_range : {E : Type 0} (v w : World) (text script : List ℕ) (r : Result RunEnd E) (k : ℕ) (a b : Option (List ℕ)) (m n : ℕ) → v ≡ w
    → w.limit ≡ range → Told r refusals (log_bytes v.limit text (entries_of v (commands script))) k a b m n
    → Told r refusals (log_bytes range text (entries_of v (commands script))) k a b m n
of_range v w text script r k a b m n is limit told =
    subst (λ bytes. Told r refusals bytes k a b m n)
    (ap (λ l. log_bytes l text (entries_of v (commands script))) (ap (λ (x : World). x.limit) is ∙ limit)) told

pub record_did : {E : Type 0} (v : World) (text : List ℕ) (scene : Parts) (script : List ℕ) (r : Result RunEnd E) (s : Status)
    (a b : Option (List ℕ)) (m n : ℕ) → v ≡ opened scene → scene.limit ≡ range → s ≡ status_in script_status r
    → Told r refusals (log_bytes v.limit text (entries_of v (commands script))) (refused_count v (commands script)) a b m n
    → Does (record_on text scene script) a b m n s
unfolding record_on
record_did v text scene script r s a b m n is limit ends told = counted_from (λ w. record_outcome text w (commands script))
    (λ w. refused_count w (commands script)) v (opened scene) r s a b m n is refl ends
    (of_range v (opened scene) text script r (refused_count v (commands script)) a b m n is limit told)

pub replay_did : {E : Type 0} (v : World) (scene : Parts) (entries : List Entry) (r : Result ReplayEnd E) (s : Status)
    (a b : Option (List ℕ)) (m n : ℕ) → v ≡ opened scene → s ≡ status_in replay_status r
    → Told r (λ end. end) (replayed v entries).text (replayed v entries).ended a b m n → Does (replay_on scene entries) a b m n s
unfolding replay_on
replay_did v scene entries r s a b m n is ends told = did_from (λ w. replay_outcome (replayed w entries)) v (opened scene) r
    (λ end. end) replay_status (replayed v entries).ended s a b m n replay_ending is refl ends told

steps_did_in : {E : Type 0} (number size : ℕ) (v w : World) (r : Result Reply E) (s : Status) (a b : Option (List ℕ)) (m n : ℕ) → v ≡ w
    → s ≡ status_in step_status r
    → Told r (λ said. said) (summary number size (after v (Step 30)) (reply v (Step 30))) (reply v (Step 30)) a b m n
    → Does (summary_outcome number size w []) a b m n s
unfolding summary_outcome
steps_did_in number size v w r s a b m n is ends told = did_from (λ x. summary_outcome number size x []) v w r
    (λ said. said) step_status (reply v (Step 30)) s a b m n steps_ending is refl ends told

pub steps_did : {E : Type 0} (number size : ℕ) (v : World) (scene : Parts) (r : Result Reply E) (s : Status) (a b : Option (List ℕ))
    (m n : ℕ) → v ≡ opened scene → s ≡ status_in step_status r
    → Told r (λ said. said) (summary number size (after v (Step 30)) (reply v (Step 30))) (reply v (Step 30)) a b m n
    → Does (large_on number size scene) a b m n s
unfolding large_on
steps_did number size v scene r s a b m n is ends told = steps_did_in number size v (opened scene) r s a b m n is ends told

-- ---- hosted sessions

host_did_in : {E : Type 0} (vs ws : List World) (k : ℕ) (rs : ℕ → List Request) (r : Result RunEnd E) (s : Status) (a b : Option (List ℕ))
    (m n : ℕ) → vs ≡ ws → length ws ≡ k → s ≡ status_in script_status r
    → Told r refusals (hosted_text vs (rs (length vs))) (hosted_refused vs (rs (length vs))) a b m n
    → Does (host_outcome ws (rs k)) a b m n s
host_did_in vs ws k rs r s a b m n is many ends told =
    subst (λ (j : ℕ). Does (host_outcome ws (rs j)) a b m n s) many
    (counted_from (λ (x : List World). host_outcome x (rs (length x))) (λ x. hosted_refused x (rs (length x))) vs ws r s a b m n is refl
    ends told)

pub host_did : {E : Type 0} (vs : List World) (scenes : List Parts) (lines : List ℕ) (r : Result RunEnd E) (s : Status)
    (a b : Option (List ℕ)) (m n : ℕ) → vs ≡ map opened scenes → s ≡ status_in script_status r
    → Told r refusals (hosted_text vs (requests_of (length vs) (pieces lines)))
    (hosted_refused vs (requests_of (length vs) (pieces lines))) a b m n → Does (host_on scenes lines) a b m n s
unfolding host_on
host_did vs scenes lines r s a b m n is ends told =
    host_did_in vs (map opened scenes) (length scenes) (λ j. requests_of j (pieces lines)) r s a b m n is
    (length-map {A = Parts} {B = World} scenes opened) ends told
