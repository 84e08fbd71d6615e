-- What a recorded session's log is, and why there is none.
use Rattle.std.specs.Prelude.{◌≡◌, ◌⊎◌, ⊤, ℕ, ◌<◌, ◌^◌, ℤ, pos, List, length}
use Rattle.std.specs.Str.{IsUtf8}
use Rattle.toml.specs.Parse.{parse_document}
use Rattle.pbd_world.specs.declared.parts.Parts.{Parts}
use Rattle.pbd_world.specs.Session.{refused_count}
use Rattle.pbd_world.specs.World.{World, opened}
use Rattle.pbd_script.specs.Commands.{commands}
use Rattle.pbd_session.specs.Recording.{entries_of, log_bytes}
use Rattle.lakmozet_c.specs.declared.runs.NoRun.{NoRun}
use Rattle.lakmozet_c.specs.declared.runs.NoRun.TheVariants.{NoScene, NoRoom, TooLong, NoMemory}
use Rattle.lakmozet_c.specs.Faults.{IsScene, IsWhy}
use Rattle.lakmozet_c.specs.Runs.{end_number, no_run_number}

-- the log of a script on the world of a scene
abbrev pub log_of : World → List ℕ → List ℕ → List ℕ
log_of w scene script = log_bytes w.limit scene (entries_of w (commands script))

-- these are the bytes of the log, and so many commands were refused
pub record IsLog (scene script : List ℕ) (bytes : List ℕ) (refused : ℕ) : Type 0 where
  pub text : IsUtf8 scene
  pub parts : Parts
  pub accepted : IsScene (parse_document scene) parts
  pub log : bytes ≡ log_of (opened parts) scene script
  pub count : refused ≡ refused_count (opened parts) (commands script)

-- the log has more bytes than this
pub record IsLogPast (scene script : List ℕ) (room : ℕ) : Type 0 where
  pub bytes : List ℕ
  pub refused : ℕ
  pub log : IsLog scene script bytes refused
  pub long : room < length bytes

-- the reason holds of the scene, the script and the room for the log; only want of memory is told without one
abbrev pub IsWhyNot : List ℕ → List ℕ → ℕ → NoRun → Type 0
IsWhyNot scene script room (NoScene why) = IsWhy scene 0 why
IsWhyNot scene script room NoRoom = IsLogPast scene script room
IsWhyNot scene script room TooLong = (2 ^ 24 < length scene) ⊎ (2 ^ 24 < length script)
IsWhyNot scene script room NoMemory = ⊤

-- the log was written, and the answer tells whether a command was refused
pub record IsRecorded (scene script : List ℕ) (answer : ℤ) (bytes : List ℕ) : Type 0 where
  pub refused : ℕ
  pub done : answer ≡ pos (end_number refused)
  pub log : IsLog scene script bytes refused

-- nothing was written, for a reason that is told
pub record IsNotRecorded (scene script : List ℕ) (room : ℕ) (answer : ℤ) (written : ℕ) : Type 0 where
  pub nothing : written ≡ 0
  pub why : NoRun
  pub reason : IsWhyNot scene script room why
  pub number : answer ≡ pos (no_run_number why)
