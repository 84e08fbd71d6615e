-- What the replay of a log writes, and why nothing was replayed.
use Rattle.std.specs.Prelude.{◌≡◌, ⊤, ◌<◌, ◌^◌, ℕ, ℤ, pos, List, [], ◌∷◌, length, map, slice_get, Option, None, Some}
use Rattle.std.specs.Str.{IsUtf8}
use Rattle.toml.specs.Parse.{parse_document}
use Rattle.pbd_world.specs.declared.parts.Parts.{Parts}
use Rattle.pbd_world.specs.World.{opened}
use Rattle.pbd_log.specs.Logs.{Log, Spells, SpellsNothing, IsFault}
use Rattle.pbd_session.specs.declared.ending.Field.{Field}
use Rattle.pbd_session.specs.declared.ending.Field.TheVariants as fields
use Rattle.pbd_session.specs.declared.ending.ReplayEnd.{ReplayEnd}
use Rattle.pbd_session.specs.declared.ending.ReplayEnd.TheVariants.{Done, Mismatch}
use Rattle.pbd_session.specs.Replaying.{replayed}
use Rattle.lakmozet_c.specs.declared.opening.NoCloth.{NoCloth}
use Rattle.lakmozet_c.specs.declared.plain.Stop.{Stop}
use Rattle.lakmozet_c.specs.declared.replaying.NoReplay.{NoReplay}
use Rattle.lakmozet_c.specs.declared.replaying.NoReplay.TheVariants.{NoLog, Stopped}
use Rattle.lakmozet_c.specs.declared.runs.NoRun.TheVariants.{NoScene, NoRoom, TooLong, NoMemory}
use Rattle.lakmozet_c.specs.Calls.{status}
use Rattle.lakmozet_c.specs.Faults.{IsSceneIn, IsWhyIn}
use Rattle.lakmozet_c.specs.Runs.{end_number, no_run_number}

-- ---- how a replay ended

-- the status of the program's
abbrev pub replay_number : ReplayEnd → ℕ
replay_number (Done refused) = end_number refused
replay_number (Mismatch entry field recorded found) = status 10

-- the fields of an entry in the order of the comparison: the number of each is its place, and 0 is none's
abbrev pub field_names : List (Option Field)
field_names = None ∷ map {A = Field} {B = Option Field} (λ field. Some field) (fields.Answer ∷ fields.Step ∷ fields.Phase ∷ fields.Element ∷
    fields.Steps ∷ fields.Live ∷ fields.Contacts ∷ fields.X ∷ fields.Y ∷ fields.Z ∷ fields.BeforeX ∷ fields.BeforeY ∷ fields.BeforeZ ∷ [])

abbrev pub nowhere : Stop
nowhere = record { offset = 0; entry = 0; field = 0 }

-- an entry that differs is told, with the number of its field
pub record TellsField (number : ℕ) (f : Field) (s : Stop) : Type 0 where
  pub offset : s.offset ≡ 0
  pub entry : s.entry ≡ number
  pub field : slice_get field_names s.field ≡ Some (Some f)

-- the first that differs, if one does
abbrev pub TellsStop : ReplayEnd → Stop → Type 0
TellsStop (Done refused) s = s ≡ nowhere
TellsStop (Mismatch entry field recorded found) s = TellsField entry field s

-- ---- why nothing was replayed

-- the status of the program's
abbrev pub no_replay_number : NoReplay → ℕ
no_replay_number (NoLog offset) = status 9
no_replay_number (Stopped why) = no_run_number why

-- where the bytes stop being a log, if that is the reason
abbrev pub fault_at : NoReplay → Stop
fault_at (NoLog offset) = record nowhere { offset = offset }
fault_at (Stopped why) = nowhere

abbrev pub IsSpelled : List ℕ → Log → Type 0
IsSpelled bytes log = Spells bytes log.version log.limit log.scene log.entries

-- the bytes are a log, and the reason holds of its scene, read with its limit
pub record HasNoScene (bytes : List ℕ) (why : NoCloth) : Type 0 where
  pub log : Log
  pub spelled : IsSpelled bytes log
  pub reason : IsWhyIn log.limit log.scene 0 why

-- ---- what a replay does

-- the bytes are a log, whose replay from the world of its scene prints this text and ends so
pub record IsReplay (bytes text : List ℕ) (ended : ReplayEnd) : Type 0 where
  pub log : Log
  pub spelled : IsSpelled bytes log
  pub utf8 : IsUtf8 log.scene
  pub parts : Parts
  pub accepted : IsSceneIn log.limit (parse_document log.scene) parts
  pub prints : text ≡ (replayed (opened parts) log.entries).text
  pub ends : ended ≡ (replayed (opened parts) log.entries).ended

-- the text of the replay has more bytes than this
pub record IsReplayPast (bytes : List ℕ) (room : ℕ) : Type 0 where
  pub text : List ℕ
  pub ended : ReplayEnd
  pub replay : IsReplay bytes text ended
  pub long : room < length text

-- the reason holds of the bytes and of the room for the text; only want of memory is told without one
abbrev pub IsWhyNoReplay : List ℕ → ℕ → NoReplay → Type 0
IsWhyNoReplay bytes room (NoLog offset) = SpellsNothing bytes × IsFault bytes offset
IsWhyNoReplay bytes room (Stopped (NoScene why)) = HasNoScene bytes why
IsWhyNoReplay bytes room (Stopped NoRoom) = IsReplayPast bytes room
IsWhyNoReplay bytes room (Stopped TooLong) = 2 ^ 27 < length bytes
IsWhyNoReplay bytes room (Stopped NoMemory) = ⊤

-- the text was written, the answer tells how it ended, and a difference is told
pub record IsReplayed (bytes : List ℕ) (answer : ℤ) (text : List ℕ) (stop : Stop) : Type 0 where
  pub ended : ReplayEnd
  pub done : answer ≡ pos (replay_number ended)
  pub place : TellsStop ended stop
  pub replay : IsReplay bytes text ended

-- nothing was written, for a reason that is told
pub record IsNotReplayed (bytes : List ℕ) (room : ℕ) (answer : ℤ) (written : ℕ) (stop : Stop) : Type 0 where
  pub nothing : written ≡ 0
  pub why : NoReplay
  pub reason : IsWhyNoReplay bytes room why
  pub number : answer ≡ pos (no_replay_number why)
  pub place : stop ≡ fault_at why
