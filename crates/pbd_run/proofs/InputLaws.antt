-- What the calls on an input did, by its halves or by the log that it is.
use Rattle.std.proofs.Common.{◌≡◌, ◌∙◌, refl, ℕ, ◌≤◌, ◌^◌, length, List, [], Option, Some, None, Ok, inl, inr, arith}
use Rattle.std.specs.Prelude.{ℤ, IsTrue}
use Rattle.pbd_world.specs.declared.parts.Parts.{Parts}
use Rattle.pbd_world.specs.Outcomes.{◌>>=◌}
use Rattle.pbd_world.specs.Valid.{is_limit}
use Rattle.pbd_log.specs.Logs.{Log, IsVersion}
use Rattle.pbd_outcome.specs.declared.status.Status.{Status}
use Rattle.pbd_outcome.specs.declared.status.Status.TheVariants.{NoScript}
use Rattle.pbd_outcome.specs.Outcome.{Outcome, log_outcome, range, recorded, scene_in, settled, simulated, simulated_with_marks, stops}
use Rattle.pbd_outcome.specs.Split.{split}
use Rattle.pbd_outcome.proofs.OutcomeLaws.{log_is, settled_ok}
use Rattle.pbd_outcome.proofs.SceneLimits.{its_limit}
use Rattle.pbd_run.specs.declared.inputs.ScriptJob.{ScriptJob}
use Rattle.pbd_run.specs.declared.inputs.ScriptJob.TheVariants as scripts
use Rattle.pbd_run.specs.declared.scene.SceneStop.{SceneStop}
use Rattle.pbd_run.specs.Calls.{Does, DoesSome, EndsForScene, HasHalves, IsOne, IsRecordable, Stops, StopsAtHalves, on_halves}
use Rattle.pbd_run.specs.Forms.{job_of, marks_on, record_on, replay_on, script_on, simulate_on}
use Rattle.pbd_run.proofs.SceneLaws.{scene_ended}

-- ---- halves

then_scene : (outcome : List ℕ → Parts → List ℕ → Outcome) (input : List ℕ) (h : List ℕ × List ℕ) → split input ≡ Some h
    → on_halves outcome input ≡ settled (scene_in range h.0 >>= λ parts. Ok (outcome h.0 parts h.1))
then_scene outcome input h e = rw e refl

pub of_halves : (outcome : List ℕ → Parts → List ℕ → Outcome) (input text : List ℕ) (parts : Parts) (script : List ℕ)
    → HasHalves input text parts script → on_halves outcome input ≡ outcome text parts script
of_halves outcome input text parts script has = then_scene outcome input (text, script) has.halves
    ∙ settled_ok (scene_in range text) (λ p. outcome text p script) parts has.scene

pub no_halves : (input : List ℕ) (a b : Option (List ℕ)) (m n : ℕ) (s : Status) → split input ≡ None → Does (stops NoScript []) a b m n s
    → StopsAtHalves input a b m n s
no_halves input a b m n s none does = λ outcome. rw none does

pub no_scene : (input text script : List ℕ) (why : SceneStop) (a b : Option (List ℕ)) (m n : ℕ) (s : Status)
    → split input ≡ Some (text, script) → Stops why (scene_in range text) → EndsForScene why a b m n s → StopsAtHalves input a b m n s
no_scene input text script why a b m n s halves stops does = λ outcome.
    rw (then_scene outcome input (text, script) halves) (scene_ended why (scene_in range text) _ a b m n s stops does)

pub recordable : (input text : List ℕ) (parts : Parts) (script : List ℕ) → HasHalves input text parts script → length input ≤ 2 ^ 31
    → IsRecordable text parts script
recordable input text parts script has short = record {
  short_text = omega (arith, has.short_text, short);
  short_script = omega (arith, has.short_script, short);
  limit = its_limit range text parts has.scene;
}

-- ---- jobs that run a script

of_script : (job : ScriptJob) (input : List ℕ) → IsOne (job_of job) input (on_halves (script_on job) input)
unfolding simulated recorded simulated_with_marks simulate_on record_on marks_on
of_script (scripts.Simulate width) input = refl
of_script (scripts.Record width) input = refl
of_script (scripts.Scramble seed) input = refl
of_script (scripts.Marks width) input = refl

pub script_done : (job : ScriptJob) (input text : List ℕ) (parts : Parts) (script : List ℕ) (a b : Option (List ℕ)) (m n : ℕ) (s : Status)
    → HasHalves input text parts script → Does (script_on job text parts script) a b m n s → DoesSome (IsOne (job_of job) input) a b m n s
script_done job input text parts script a b m n s has does = record {
  outcome = on_halves (script_on job) input;
  its = of_script job input;
  does = rw (of_halves (script_on job) input text parts script has) does;
}

pub script_stopped : (job : ScriptJob) (input : List ℕ) (a b : Option (List ℕ)) (m n : ℕ) (s : Status) → StopsAtHalves input a b m n s
    → DoesSome (IsOne (job_of job) input) a b m n s
script_stopped job input a b m n s stopped = record {
  outcome = on_halves (script_on job) input;
  its = of_script job input;
  does = stopped (script_on job);
}

-- ---- a log

pub version_limit : (version : ℕ) (limit : ℤ) → IsVersion version limit → IsTrue (is_limit limit)
version_limit version limit (inl old) = rw old.1 refl
version_limit version limit (inr new) = new.1

pub log_did : (log : Log) (parts : Parts) (a b : Option (List ℕ)) (m n : ℕ) (s : Status) → scene_in log.limit log.scene ≡ Ok parts
    → Does (replay_on parts log.entries) a b m n s → Does (log_outcome log) a b m n s
unfolding replay_on
log_did log parts a b m n s given does =
    rw (log_is log ∙ settled_ok (scene_in log.limit log.scene) (λ p. replay_on p log.entries) parts given) does
