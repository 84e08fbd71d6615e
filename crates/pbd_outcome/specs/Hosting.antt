-- What a run of `host` did on accepted scenes: each session writes what it writes alone.
use Rattle.std.specs.Prelude.{◌≡◌, ◌≢◌, ◌<◌, ◌≤◌, ℕ, List, length, map, Some, Ok}
use Rattle.std.specs.Io.KnownBytes.{Appends}
use Rattle.pbd_world.specs.declared.command.Width.{Width}
use Rattle.pbd_world.specs.declared.parts.Parts.{Parts}
use Rattle.pbd_world.specs.Session.{session_text}
use Rattle.pbd_world.specs.World.{World, opened}
use Rattle.pbd_host.specs.declared.request.Request.{Request}
use Rattle.pbd_host.specs.Hosted.{commands_to, hosted_refused, hosted_text, own_text, world_at}
use Rattle.pbd_host.specs.Tagged.{requests_of}
use Rattle.pbd_outcome.specs.declared.job.Job.TheVariants.{Host}
use Rattle.pbd_outcome.specs.declared.status.Status.TheVariants.{ReadFault, WriteFault, OutOfMemory}
use Rattle.pbd_outcome.specs.Clauses.{Run}
use Rattle.pbd_outcome.specs.Outcome.{ends_as, most, scenes_in}
use Rattle.pbd_outcome.specs.Split.{host_split}

-- an input has scenes with these parts, and these tagged lines
pub record AcceptsAll (input : List ℕ) (scenes : List Parts) (lines : List (List ℕ)) : Type 0 where
  pub texts : List (List ℕ)
  pub short : length input ≤ most
  pub halves : host_split input ≡ Some (texts, lines)
  pub few : length texts ≤ 16
  pub accepted : scenes_in 0 texts ≡ Ok scenes

-- a run of these requests on sessions whose worlds are these at first
pub record HostedApart (ws : List World) (rs : List Request) (run : Run) : Type 0 where
  pub bytes : Appends run.old.written run.new.written (hosted_text ws rs)
  pub ending : run.status ≡ ends_as (hosted_refused ws rs)
  -- What is printed for session t, without the lines `session T`, is the text of its own commands alone, from its own
  -- world, whatever comes between them.
  pub apart : (t : ℕ) → t < length ws → own_text t ws rs ≡ session_text (world_at ws t) (commands_to t rs)

-- at each width, where reading, writing and memory went well
abbrev pub HostsApart : Run → Type 0
HostsApart run = (width : Width) (input : List ℕ) (scenes : List Parts) (lines : List (List ℕ))
    → run.job ≡ Some (Host width) → run.old.left ≡ Some input → AcceptsAll input scenes lines
    → run.status ≢ ReadFault → run.status ≢ WriteFault → run.status ≢ OutOfMemory
    → HostedApart (map opened scenes) (requests_of (length scenes) lines) run
