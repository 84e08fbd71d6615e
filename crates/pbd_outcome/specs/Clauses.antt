-- What a run promises of its status, its source and its sink.
use Rattle.std.specs.Prelude.{◌≡◌, ◌≢◌, ◌⊎◌, ℕ, List, Option, Some, None, IfSome}
use Rattle.std.specs.Io.KnownBytes.{Appends, Keeps}
use Rattle.pbd_io.specs.declared.traits.Source as source
use Rattle.pbd_io.specs.declared.traits.Sink as sink
use Rattle.pbd_io.specs.Causes.{HasRisen}
use Rattle.pbd_io.specs.Pieces.{AppendsPrefix}
use Rattle.pbd_world.specs.declared.command.Width.{Width}
use Rattle.pbd_outcome.specs.declared.job.Job.{Job}
use Rattle.pbd_outcome.specs.declared.job.Job.TheVariants.{Simulate, Large, Scramble}
use Rattle.pbd_outcome.specs.declared.status.Status.{Status}
use Rattle.pbd_outcome.specs.declared.status.Status.TheVariants.{Usage, ReadFault, WriteFault, OutOfMemory}
use Rattle.pbd_outcome.specs.Statuses.{status_line}
use Rattle.pbd_outcome.specs.Outcome.{Outcome, IsOutcome}

-- what a run sees of its source and its sink: the bytes where they are told, and the counts of faults
pub record Ends : Type 0 where
  pub left : Option (List ℕ)
  pub source_faults : ℕ
  pub written : Option (List ℕ)
  pub sink_faults : ℕ

abbrev pub ends : {S K : Type 0} → source.Ghosts S → sink.Ghosts K → S → K → Ends
ends s k source sink = record {
  left = s.left source;
  source_faults = s.faults source;
  written = k.written sink;
  sink_faults = k.faults sink;
}

-- a run: what was asked for, the two ends before and after, and how it ended
pub record Run : Type 0 where
  pub job : Option Job
  pub old : Ends
  pub new : Ends
  pub status : Status

-- a run from a source and a sink as they were to what they are then
abbrev pub run_of : {S K : Type 0} → source.Ghosts S → sink.Ghosts K → Option Job → S → K → S → K → Status → Run
run_of s k job source sink source' sink' status = record {
  job = job;
  old = ends s k source sink;
  new = ends s k source' sink';
  status = status;
}

-- the jobs that read their input
abbrev pub Reads : Option Job → Type 0
Reads None = ⊥
Reads (Some (Large width number size)) = ⊥
Reads (Some job) = Unit {0}

-- ---- where the run went well

-- the input is told, or the job doesn't read it
abbrev pub IsInput : Option Job → Option (List ℕ) → List ℕ → Type 0
IsInput job left input = (Reads job → ⊥) ⊎ (left ≡ Some input)

-- the run went as an outcome of its job and this input says: the status, the appended bytes and what is left
pub record Goes (input : List ℕ) (run : Run) : Type 0 where
  pub outcome : Outcome
  pub its : IsOutcome run.job input outcome
  pub ends : run.status ≡ outcome.status
  pub text : Appends run.old.written run.new.written outcome.text
  pub rest : Reads run.job → IfSome run.old.left (λ _. run.new.left ≡ Some outcome.rest)

-- The status and the bytes are those of the outcome, whatever the counts did, unless the status is one of these three.
abbrev pub Settles : Run → Type 0
Settles run = run.status ≢ ReadFault → run.status ≢ WriteFault → run.status ≢ OutOfMemory
    → (input : List ℕ) → IsInput run.job run.old.left input → Goes input run

-- Whatever the source tells: the status, and the bytes where they are told, are those of the outcome of some input, unless
-- the status is one of these three.
abbrev pub GoesAsSome : Run → Type 0
GoesAsSome run = run.status ≢ ReadFault → run.status ≢ WriteFault → run.status ≢ OutOfMemory
    → (input : List ℕ) × Goes input run

-- Whatever the source tells: status 1 says that the words are no form, and such words have no other status, but where their
-- line can't be written.
pub record TellsUsage (run : Run) : Type 0 where
  pub only : run.status ≡ Usage → run.job ≡ None
  pub always : run.job ≡ None → run.status ≢ WriteFault → run.status ≡ Usage

-- What `scramble` does is what `simulate` does at each width, whatever the number, unless the status is one of these three.
abbrev pub ScramblesAlike : Run → Type 0
ScramblesAlike run = (number : ℕ) (width : Width) → run.job ≡ Some (Scramble number) → Settles (record run { job = Some (Simulate width) })

-- ---- where something failed

-- A fault of reading
pub record BlamesSource (run : Run) : Type 0 where
  pub cause : HasRisen run.old.source_faults run.new.source_faults
  pub text : Appends run.old.written run.new.written (status_line ReadFault)
  pub reads : Reads run.job

-- a prefix of the text of an outcome was written
pub record Begins (input : List ℕ) (run : Run) : Type 0 where
  pub outcome : Outcome
  pub its : IsOutcome run.job input outcome
  pub front : AppendsPrefix run.old.written run.new.written outcome.text

-- or a prefix of the line of a fault of reading
abbrev pub BeginsOr : List ℕ → Run → Type 0
BeginsOr input run = Begins input run
    ⊎ (HasRisen run.old.source_faults run.new.source_faults × AppendsPrefix run.old.written run.new.written (status_line ReadFault))

-- A fault of writing, where the input is told, and whatever is told
pub record BlamesSink (run : Run) : Type 0 where
  pub cause : HasRisen run.old.sink_faults run.new.sink_faults
  pub text : (input : List ℕ) → IsInput run.job run.old.left input → BeginsOr input run
  pub some : (input : List ℕ) × BeginsOr input run

-- Memory ran out
pub record GivesUp (run : Run) : Type 0 where
  pub nothing : Keeps run.old.written run.new.written
  pub asked : run.job ≢ None

-- what a run promises whatever it is asked for
pub record Promises (run : Run) : Type 0 where
  pub outcome : Settles run
  pub untold : GoesAsSome run
  pub usage : TellsUsage run
  pub read_fault : run.status ≡ ReadFault → BlamesSource run
  pub write_fault : run.status ≡ WriteFault → BlamesSink run
  pub no_memory : run.status ≡ OutOfMemory → GivesUp run
