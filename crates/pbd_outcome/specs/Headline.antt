-- The headline: what a run of `simulate` did on an accepted scene and a script.
use Rattle.std.specs.Prelude.{◌≡◌, ◌≢◌, ◌≤◌, ◌∷◌, ◌++◌, ℕ, pos, true, List, length, Some, Ok}
use Rattle.std.specs.Io.KnownBytes.{Appends}
use Rattle.std.specs.Str.{is_utf8}
use Rattle.toml.specs.Data.{Members}
use Rattle.toml.specs.Parse.{parse_document}
use Rattle.pbd_world.specs.declared.command.Command.{Command}
use Rattle.pbd_world.specs.declared.command.Refusal.{Refusal}
use Rattle.pbd_world.specs.declared.command.Reply.TheVariants.{Refused}
use Rattle.pbd_world.specs.declared.command.Width.{Width}
use Rattle.pbd_world.specs.declared.parts.Parts.{Parts}
use Rattle.pbd_world.specs.Ledger.{Sum, both_sums}
use Rattle.pbd_world.specs.Meaning.{after, reply}
use Rattle.pbd_world.specs.Momentum.{momentum}
use Rattle.pbd_world.specs.Session.{last_world, refused_count, session_text}
use Rattle.pbd_world.specs.Text.{refusal_line}
use Rattle.pbd_world.specs.World.{HaveWeight, IsSound, World, opened}
use Rattle.pbd_scene.specs.Scene.{scene_of}
use Rattle.pbd_script.specs.Commands.{commands}
use Rattle.pbd_outcome.specs.declared.job.Job.TheVariants.{Simulate}
use Rattle.pbd_outcome.specs.declared.status.Status.TheVariants.{ReadFault, WriteFault, OutOfMemory}
use Rattle.pbd_outcome.specs.Clauses.{Run}
use Rattle.pbd_outcome.specs.Outcome.{ends_as, most, range}
use Rattle.pbd_outcome.specs.Split.{split}

-- momentum is what it was at first and what gravity, pins and shapes gave
abbrev pub KeepsMomentum : Sum → World → Type 0
KeepsMomentum first w = momentum w.particles ≡ both_sums first (both_sums w.totals.gravity (both_sums w.totals.pin w.totals.shape))

-- an input has a scene with these parts and this script
pub record Accepts (input : List ℕ) (parts : Parts) (script : List ℕ) : Type 0 where
  pub scene : List ℕ
  pub tree : Members
  pub short : length input ≤ most
  pub halves : split input ≡ Some (scene, script)
  pub is_text : is_utf8 scene ≡ true
  pub is_tree : parse_document scene ≡ Some tree
  pub accepted : scene_of range tree ≡ Ok parts

-- A session with one command among others is the session without it, but for that command's line.
pub record SaveForLine (w : World) (before : List Command) (command : Command) (refusal : Refusal) (later : List Command) : Type 0 where
  pub with_it : session_text w (before ++ command ∷ later)
      ≡ session_text w before ++ refusal_line refusal ++ session_text (last_world w before) later
  pub without : session_text w (before ++ later) ≡ session_text w before ++ session_text (last_world w before) later

-- A run of these commands on a scene of these parts. No width has a part in it.
pub record Headline (parts : Parts) (cs : List Command) (run : Run) : Type 0 where
  -- The bytes are those of the scalar solver: of one command after another by its meaning, whose steps project one
  -- constraint at a time, in colour and index order, with the contacts of all pairs.
  pub bytes : Appends run.old.written run.new.written (session_text (opened parts) cs)
  pub ending : run.status ≡ ends_as (refused_count (opened parts) cs)
  -- Each world is sound, from the first one on.
  pub sound : (before later : List Command) → cs ≡ before ++ later → IsSound (last_world (opened parts) before)
  -- A refused command changes nothing.
  pub refused : (before later : List Command) (command : Command) (refusal : Refusal) → cs ≡ before ++ command ∷ later
      → reply (last_world (opened parts) before) command ≡ Refused refusal
      → after (last_world (opened parts) before) command ≡ last_world (opened parts) before
  -- All later bytes are those of a session that never had that command, but for its own line.
  pub later_bytes : (before later : List Command) (command : Command) (refusal : Refusal) → cs ≡ before ++ command ∷ later
      → reply (last_world (opened parts) before) command ≡ Refused refusal
      → SaveForLine (opened parts) before command refusal later
  -- Undamped and with equal weights, momentum changes exactly by the gravity, pin and shape totals, at each moment.
  pub momentum : (before later : List Command) (weight : ℕ) → cs ≡ before ++ later
      → parts.damping ≡ pos 0 → HaveWeight weight parts.particles
      → KeepsMomentum (momentum parts.particles) (last_world (opened parts) before)

-- at each width, where reading, writing and memory went well
abbrev pub KeepsHeadline : Run → Type 0
KeepsHeadline run = (width : Width) (input script : List ℕ) (parts : Parts)
    → run.job ≡ Some (Simulate width) → run.old.left ≡ Some input → Accepts input parts script
    → run.status ≢ ReadFault → run.status ≢ WriteFault → run.status ≢ OutOfMemory
    → Headline parts (commands script) run
