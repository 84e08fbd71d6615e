-- From what a reading and a session did to what a run promises.
use Rattle.std.proofs.Common.{◌≡◌, ◌≢◌, ◌∙◌, sym, subst, refl, ℕ, ◌+◌, ◌<◌, ◌≤◌, List, [], length, drop, Option, Some, None, IfSome, Err}
use Rattle.std.proofs.Common.{arith, inl, inr, length-append}
use Rattle.std.specs.Io.KnownBytes.{Appends, Keeps, Consumes}
use Rattle.pbd_io.specs.Causes.{HasRisen}
use Rattle.pbd_io.specs.Pieces.{AppendsPrefix}
use Rattle.pbd_io.specs.Appending.{consumed_all, consumed_some}
use Rattle.pbd_world.specs.declared.command.Width.{Width}
use Rattle.pbd_outcome.specs.declared.job.Job.{Job}
use Rattle.pbd_outcome.specs.declared.job.Job.TheVariants.{Simulate, Record, Replay, Large, Scramble, Obj, Marks, Host}
use Rattle.pbd_run.specs.declared.reading.ReadEnd.{ReadEnd}
use Rattle.pbd_run.specs.declared.reading.ReadEnd.TheVariants as readings
use Rattle.pbd_outcome.specs.declared.status.Status.{Status}
use Rattle.pbd_outcome.specs.declared.status.Status.TheVariants.{Done, Usage, ReadFault, WriteFault, InputTooLong, NoScript, SceneNotText}
use Rattle.pbd_outcome.specs.declared.status.Status.TheVariants.{SceneNotToml, SceneRefused, LogRefused, Mismatch, SomeRefused, OutOfMemory}
use Rattle.pbd_outcome.specs.declared.status.Status.TheVariants.{ObjRefused, TooManyScenes}
use Rattle.pbd_run.specs.Reading.{ReachesEnd, Overruns, ReadsAll}
use Rattle.pbd_outcome.specs.Outcome.{Outcome, IsOutcome, IsWithin, large_outcome, stops}
use Rattle.pbd_outcome.specs.Clauses.{BeginsOr, Ends, Goes, IsInput, Promises, Reads, Run}
use Rattle.pbd_run.specs.Calls.{Does, DoesSome, EndsReading, IsOne, limit_of}
use Rattle.pbd_run.proofs.WholeLaws.{IsEnd, IsWhole, large_ends, large_rest, meshed_whole, simulated_whole, recorded_whole, replayed_whole}
use Rattle.pbd_run.proofs.WholeLaws.{marks_whole, hosted_whole}

-- ---- what a call did

pub does_settled : (o : Outcome) (a b : Option (List ℕ)) (m n : ℕ) (s : Status) → Does o a b m n s → s ≢ WriteFault → s ≢ OutOfMemory
    → (s ≡ o.status) × Appends a b o.text
does_settled o a b m n Done does w m' = does
does_settled o a b m n Usage does w m' = does
does_settled o a b m n ReadFault does w m' = does
does_settled o a b m n WriteFault does w m' = absurd (w refl)
does_settled o a b m n InputTooLong does w m' = does
does_settled o a b m n NoScript does w m' = does
does_settled o a b m n SceneNotText does w m' = does
does_settled o a b m n SceneNotToml does w m' = does
does_settled o a b m n SceneRefused does w m' = does
does_settled o a b m n LogRefused does w m' = does
does_settled o a b m n Mismatch does w m' = does
does_settled o a b m n SomeRefused does w m' = does
does_settled o a b m n OutOfMemory does w m' = absurd (m' refl)
does_settled o a b m n ObjRefused does w m' = does
does_settled o a b m n TooManyScenes does w m' = does

does_failed : (o : Outcome) (a b : Option (List ℕ)) (m n : ℕ) (s : Status) → Does o a b m n s → s ≡ WriteFault
    → HasRisen m n × AppendsPrefix a b o.text
does_failed o a b m n s does is = rw is at does

does_nothing : (o : Outcome) (a b : Option (List ℕ)) (m n : ℕ) (s : Status) → Does o a b m n s → s ≡ OutOfMemory → Keeps a b
does_nothing o a b m n s does is = rw is at does

-- ---- what was promised

abbrev pub ran : Option Job → Ends → Ends → Status → Run
ran job old new status = record { job = job; old = old; new = new; status = status }

-- a status that says what was asked for
pub record Tells (job : Option Job) (o : Outcome) : Type 0 where
  pub read : o.status ≢ ReadFault
  pub only : o.status ≡ Usage → job ≡ None
  pub always : job ≡ None → o.status ≡ Usage

-- what an input leads to
pub tells_end : (job : Job) (o : Outcome) → IsEnd o.status → Tells (Some job) o
tells_end job o end = record {
  read = λ e. subst (λ (s : Status). IsEnd s) e end;
  only = λ e. absurd (subst (λ (s : Status). IsEnd s) e end);
  always = λ e. absurd cc;
}

-- what a call did is an outcome of the job on this input, but for what it says to be left
pub record Agrees (job : Option Job) (old new : Ends) (o : Outcome) (input : List ℕ) : Type 0 where
  pub outcome : Outcome
  pub its : IsOutcome job input outcome
  pub text : outcome.text ≡ o.text
  pub ends : outcome.status ≡ o.status
  pub rest : Reads job → IfSome old.left (λ _. new.left ≡ Some outcome.rest)

goes_as : (job : Option Job) (old new : Ends) (o : Outcome) (s : Status) (input : List ℕ) → Agrees job old new o input
    → Does o old.written new.written old.sink_faults new.sink_faults s → s ≢ WriteFault → s ≢ OutOfMemory → Goes input (ran job old new s)
goes_as job old new o s input a does nw nm =
    let d = does_settled o old.written new.written old.sink_faults new.sink_faults s does nw nm in
    record { outcome = a.outcome; its = a.its; ends = d.0 ∙ sym a.ends; text = rw a.text d.1; rest = a.rest }

began : (job : Option Job) (old new : Ends) (o : Outcome) (s : Status) (input : List ℕ) → Agrees job old new o input
    → AppendsPrefix old.written new.written o.text → BeginsOr input (ran job old new s)
began job old new o s input a front = inl (record { outcome = a.outcome; its = a.its; front = rw a.text front })

-- the promises of a run that did as an outcome says, where that is one on every input that it may have had, and on some
pub promised : (job : Option Job) (old new : Ends) (o : Outcome) (s : Status) → Tells job o → (s ≡ OutOfMemory → job ≢ None)
    → Does o old.written new.written old.sink_faults new.sink_faults s
    → ((input : List ℕ) → IsInput job old.left input → Agrees job old new o input) → ((input : List ℕ) × Agrees job old new o input)
    → Promises (ran job old new s)
promised job old new o s tells asked does agrees some = record {
  outcome = λ nr nw nm input is. goes_as job old new o s input (agrees input is) does nw nm;
  untold = λ nr nw nm. (some.0, goes_as job old new o s some.0 some.1 does nw nm);
  usage = record {
    only = λ e.
        let d = does_settled o old.written new.written old.sink_faults new.sink_faults s does (λ f. cc) (λ f. cc) in
        tells.only (sym d.0 ∙ e);
    always = λ none nw.
        let d = does_settled o old.written new.written old.sink_faults new.sink_faults s does nw (λ e. asked e none) in
        d.0 ∙ tells.always none;
  };
  read_fault = λ e.
      let d = does_settled o old.written new.written old.sink_faults new.sink_faults s does (λ f. cc) (λ f. cc) in
      absurd (tells.read (sym d.0 ∙ e));
  write_fault = λ e.
      let d = does_failed o old.written new.written old.sink_faults new.sink_faults s does e in
      record {
        cause = d.0;
        text = λ input is. began job old new o s input (agrees input is) d.1;
        some = (some.0, began job old new o s some.0 some.1 d.1);
      };
  no_memory = λ e. record { nothing = does_nothing o old.written new.written old.sink_faults new.sink_faults s does e; asked = asked e };
}

-- the input is told, or what was read serves as one
some_input : (left : Option (List ℕ)) (P : List ℕ → Type 0) (read : List ℕ) → ((input : List ℕ) → left ≡ Some input → P input)
    → (left ≡ None → P read) → (input : List ℕ) × P input
some_input (Some input) P read told untold = (input, told input refl)
some_input None P read told untold = (read, untold refl)

-- ---- forms that read

-- A form that reads up to a limit. `IsOne` says what it comes to on an input that was read to its end.
pub record IsForm (job : Job) (limit : ℕ) (IsOne : List ℕ → Outcome → Type 0) : Type 0 where
  pub reads : Reads (Some job)
  pub its : (input : List ℕ) (o : Outcome) → IsWithin limit (IsOne input) input o → IsOutcome (Some job) input o
  pub whole : (input : List ℕ) (o : Outcome) → IsOne input o → IsWhole o

pub forms : (job : Job) → Reads (Some job) → IsForm job (limit_of job) (IsOne job)
forms (Simulate w) reads = record { reads = tt; its = λ input o is. is; whole = λ input o is. rw is (simulated_whole input) }
forms (Record w) reads = record { reads = tt; its = λ input o is. is; whole = λ input o is. rw is (recorded_whole input) }
forms (Replay w) reads = record { reads = tt; its = λ input o is. is; whole = replayed_whole }
forms (Large w seed size) reads = absurd reads
forms (Scramble seed) reads = record { reads = tt; its = λ input o is. is; whole = λ input o is. rw is (simulated_whole input) }
forms (Obj w) reads = record { reads = tt; its = λ input o is. is; whole = λ input o is. rw is (meshed_whole input) }
forms (Marks w) reads = record { reads = tt; its = λ input o is. is; whole = λ input o is. rw is (marks_whole input) }
forms (Host w) reads = record { reads = tt; its = λ input o is. is; whole = λ input o is. rw is (hosted_whole input) }

told_input : (job : Option Job) (left : Option (List ℕ)) (input : List ℕ) → Reads job → IsInput job left input → left ≡ Some input
told_input job left input reads (inl unread) = absurd (unread reads)
told_input job left input reads (inr told) = told

-- the promises of a job that reads, where its input is told or is what it read
read_promised : (job : Job) (old new : Ends) (o : Outcome) (s : Status) (read : List ℕ) → Reads (Some job) → IsEnd o.status
    → Does o old.written new.written old.sink_faults new.sink_faults s
    → ((input : List ℕ) → old.left ≡ Some input → Agrees (Some job) old new o input) → (old.left ≡ None → Agrees (Some job) old new o read)
    → Promises (ran (Some job) old new s)
read_promised job old new o s read reads end does told untold =
    promised (Some job) old new o s (tells_end job o end) (λ e f. cc) does
    (λ input given. told input (told_input (Some job) old.left input reads given))
    (some_input old.left (Agrees (Some job) old new o) read told untold)

-- the input was read to its end, and the job did one of its outcomes
pub read_whole : (job : Job) (limit : ℕ) (IsOne : List ℕ → Outcome → Type 0) (old new : Ends) (v : List ℕ) (s : Status)
    → IsForm job limit IsOne → ReachesEnd limit old.left new.left v
    → DoesSome (IsOne v) old.written new.written old.sink_faults new.sink_faults s → Promises (ran (Some job) old new s)
read_whole job limit IsOne old new v s form reached did =
    let whole = form.whole v did.outcome did.its in
    let its : IsWithin limit (IsOne v) v did.outcome = inr (reached.short, did.its) in
    read_promised job old new did.outcome s v form.reads whole.ended did.does
    (λ input told.
    let all = consumed_all input new.left v (rw told at reached.consumed) reached.ended in
    record {
      outcome = did.outcome;
      its = form.its input did.outcome (rw all.0 its);
      text = refl;
      ends = refl;
      rest = λ _. rw (told, whole.rest) all.1;
    })
    (λ untold. record { outcome = did.outcome; its = form.its v did.outcome its; text = refl; ends = refl; rest = λ _. rw untold tt })

-- where only one outcome is of the kind
pub did_one : (o : Outcome) (a b : Option (List ℕ)) (m n : ℕ) (s : Status) → Does o a b m n s → DoesSome (λ x. x ≡ o) a b m n s
did_one o a b m n s does = record { outcome = o; its = refl; does = does }

longer : (input : List ℕ) (new : Option (List ℕ)) (bytes : List ℕ) → Consumes (Some input) new bytes → length bytes ≤ length input
longer input None bytes consumed = absurd consumed
longer input (Some rest) bytes consumed = rw consumed (omega (arith, length-append bytes rest))

-- an input that is too long
too_long : (job : Job) (limit : ℕ) (IsOne : List ℕ → Outcome → Type 0) (old new : Ends) (input : List ℕ) → IsForm job limit IsOne
    → limit < length input → IfSome old.left (λ _. new.left ≡ Some (drop (limit + 1) input))
    → Agrees (Some job) old new (stops InputTooLong []) input
too_long job limit IsOne old new input form long left =
    let o : Outcome = stops InputTooLong (drop (limit + 1) input) in
    record { outcome = o; its = form.its input o (inl (long, refl)); text = refl; ends = refl; rest = λ _. left }

-- one byte past the limit came
read_over : (job : Job) (limit : ℕ) (IsOne : List ℕ → Outcome → Type 0) (old new : Ends) (s : Status) → IsForm job limit IsOne
    → Overruns limit old.left new.left → Does (stops InputTooLong []) old.written new.written old.sink_faults new.sink_faults s
    → Promises (ran (Some job) old new s)
read_over job limit IsOne old new s form (bytes, consumed, count) does =
    read_promised job old new (stops InputTooLong []) s bytes form.reads tt does
    (λ input told.
    let some : Consumes (Some input) new.left bytes = rw told at consumed in
    let left = consumed_some input new.left bytes some in
    too_long job limit IsOne old new input form (omega (arith, count, longer input new.left bytes some)) (rw (told, ← count) left))
    (λ untold. too_long job limit IsOne old new bytes form (omega (arith, count)) (rw untold tt))

-- reading failed
read_failed : (job : Job) (old new : Ends) (s : Status) → Reads (Some job) → HasRisen old.source_faults new.source_faults
    → Does (stops ReadFault []) old.written new.written old.sink_faults new.sink_faults s → s ≢ OutOfMemory
    → Promises (ran (Some job) old new s)
read_failed job old new s reads rose does some =
    let settled = does_settled (stops ReadFault []) old.written new.written old.sink_faults new.sink_faults s does in
    record {
      outcome = λ nr nw nm input is. absurd (nr (settled nw nm).0);
      untold = λ nr nw nm. absurd (nr (settled nw nm).0);
      usage = record { only = λ e. let d : s ≡ ReadFault = (settled (λ f. cc) (λ f. cc)).0 in absurd cc; always = λ none. absurd cc };
      read_fault = λ e. record { cause = rose; text = (settled (λ f. cc) (λ f. cc)).1; reads = reads };
      write_fault = λ e.
          let d = does_failed (stops ReadFault []) old.written new.written old.sink_faults new.sink_faults s does e in
          record { cause = d.0; text = λ input is. inr (rose, d.1); some = ([], inr (rose, d.1)) };
      no_memory = λ e. absurd (some e);
    }

-- memory ran out
no_memory : (job : Job) (old new : Ends) (s : Status) → s ≡ OutOfMemory → Keeps old.written new.written
    → Promises (ran (Some job) old new s)
no_memory job old new s is keeps = record {
  outcome = λ nr nw nm input given. absurd (nm is);
  untold = λ nr nw nm. absurd (nm is);
  usage = record { only = λ e. absurd cc; always = λ none. absurd cc };
  read_fault = λ e. absurd cc;
  write_fault = λ e. absurd cc;
  no_memory = λ e. record { nothing = keeps; asked = λ f. cc };
}

-- the end wasn't reached
pub read_ended : (job : Job) (limit : ℕ) (IsOne : List ℕ → Outcome → Type 0) (old new : Ends) (end : ReadEnd) (s : Status)
    → IsForm job limit IsOne → ReadsAll limit old.left new.left (Err end)
    → (end ≡ readings.Failed → HasRisen old.source_faults new.source_faults)
    → EndsReading end old.written new.written old.sink_faults new.sink_faults s → Promises (ran (Some job) old new s)
read_ended job limit IsOne old new readings.Failed s form reads rose did = read_failed job old new s form.reads (rose refl) did.0 did.1
read_ended job limit IsOne old new readings.TooLong s form reads rose did = read_over job limit IsOne old new s form reads did
read_ended job limit IsOne old new readings.OutOfMemory s form reads rose did = no_memory job old new s did.0 did.1

-- the same where the limit is told by another name
pub read_ended_at : (job : Job) (limit n : ℕ) (IsOne : List ℕ → Outcome → Type 0) (old new : Ends) (end : ReadEnd) (s : Status) → n ≡ limit
    → IsForm job limit IsOne → ReadsAll n old.left new.left (Err end)
    → (end ≡ readings.Failed → HasRisen old.source_faults new.source_faults)
    → EndsReading end old.written new.written old.sink_faults new.sink_faults s → Promises (ran (Some job) old new s)
read_ended_at job limit n IsOne old new end s is form reads rose did =
    read_ended job limit IsOne old new end s form (subst (λ (x : ℕ). ReadsAll x old.left new.left (Err end)) is reads) rose did

-- ---- forms that read nothing

pub unread : (job : Option Job) (old new : Ends) (o : Outcome) (s : Status) → (Reads job → ⊥)
    → ((input : List ℕ) → IsOutcome job input (record o { rest = input })) → Tells job o → (s ≡ OutOfMemory → job ≢ None)
    → Does o old.written new.written old.sink_faults new.sink_faults s → Promises (ran job old new s)
unread job old new o s none its tells asked does =
    let agrees : (input : List ℕ) → Agrees job old new o input = λ input.
    record { outcome = record o { rest = input }; its = its input; text = refl; ends = refl; rest = λ reads. absurd (none reads) } in
    promised job old new o s tells asked does (λ input given. agrees input) ([], agrees [])

-- a generated scene
pub unread_large : (w : Width) (number size : ℕ) (old new : Ends) (s : Status)
    → Does (large_outcome number size []) old.written new.written old.sink_faults new.sink_faults s
    → Promises (ran (Some (Large w number size)) old new s)
unread_large w number size old new s does =
    unread (Some (Large w number size)) old new (large_outcome number size []) s (λ r. r) (λ input. large_rest number size input)
    (tells_end (Large w number size) (large_outcome number size []) (large_ends number size)) (λ e f. cc) does

-- words that are no form
pub unread_usage : (old new : Ends) (s : Status) → s ≢ OutOfMemory
    → Does (stops Usage []) old.written new.written old.sink_faults new.sink_faults s → Promises (ran None old new s)
unread_usage old new s some does = unread None old new (stops Usage []) s (λ r. r) (λ input. refl)
    (record { read = λ e. cc; only = λ e. refl; always = λ e. refl }) (λ e. absurd (some e)) does
