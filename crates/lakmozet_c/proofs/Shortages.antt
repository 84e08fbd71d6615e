-- A run that stopped for want of room had more bytes than there was room for.
use Rattle.std.proofs.Common.{◌≡◌, ap, refl, ℕ, List, [], ◌++◌, length, take, Some, arith, length-take}
use Rattle.std.specs.Str.{IsUtf8}
use Rattle.toml.specs.Parse.{parse_document}
use Rattle.pbd_io.specs.Pieces.{AppendsPrefix}
use Rattle.pbd_script.specs.Commands.{commands}
use Rattle.pbd_session.specs.Replaying.{replayed}
use Rattle.pbd_log.specs.Logs.{Log}
use Rattle.pbd_world.specs.declared.parts.Parts.{Parts}
use Rattle.pbd_world.specs.Session.{refused_count}
use Rattle.pbd_world.specs.World.{opened}
use Rattle.lakmozet_c.specs.declared.replaying.NoReplay.TheVariants.{Stopped}
use Rattle.lakmozet_c.specs.declared.runs.NoRun.{NoRun}
use Rattle.lakmozet_c.specs.declared.runs.NoRun.TheVariants.{NoScene, NoRoom, TooLong, NoMemory}
use Rattle.lakmozet_c.specs.Faults.{IsScene, IsSceneIn}
use Rattle.lakmozet_c.specs.Logs.{log_of, IsWhyNot}
use Rattle.lakmozet_c.specs.Replays.{IsSpelled, IsWhyNoReplay}
use Rattle.lakmozet_c.specs.Runs.{IsShortage}

-- a prefix that is past the room shows that the whole is
pub of_whole : (room : ℕ) (old front bytes : List ℕ) (why : NoRun)
    → old ≡ [] → AppendsPrefix (Some old) (Some front) bytes → IsShortage room front why → IsShortage room bytes why
of_whole room old front bytes NoRoom empty (n, prefix) long =
    let is : front ≡ [] ++ take n bytes = rw empty at prefix in
    omega (arith, ap length is, length-take n bytes, long)
of_whole room old front bytes NoMemory empty prefix short = tt
of_whole room old front bytes TooLong empty prefix short = short
of_whole room old front bytes (NoScene why) empty prefix short = short

pub no_log : (scene script : List ℕ) (room : ℕ) (parts : Parts) (why : NoRun)
    → IsUtf8 scene → IsScene (parse_document scene) parts → IsShortage room (log_of (opened parts) scene script) why
    → IsWhyNot scene script room why
no_log scene script room parts NoRoom text accepted long = record {
  bytes = log_of (opened parts) scene script;
  refused = refused_count (opened parts) (commands script);
  log = record { text = text; parts = parts; accepted = accepted; log = refl; count = refl };
  long = long;
}
no_log scene script room parts NoMemory text accepted short = tt
no_log scene script room parts TooLong text accepted short = absurd short
no_log scene script room parts (NoScene why) text accepted short = absurd short

pub no_replay : (bytes : List ℕ) (room : ℕ) (log : Log) (parts : Parts) (why : NoRun)
    → IsSpelled bytes log → IsUtf8 log.scene → IsSceneIn log.limit (parse_document log.scene) parts
    → IsShortage room (replayed (opened parts) log.entries).text why → IsWhyNoReplay bytes room (Stopped why)
no_replay bytes room log parts NoRoom spelled utf8 accepted long = record {
  text = (replayed (opened parts) log.entries).text;
  ended = (replayed (opened parts) log.entries).ended;
  replay = record { log = log; spelled = spelled; utf8 = utf8; parts = parts; accepted = accepted; prints = refl; ends = refl };
  long = long;
}
no_replay bytes room log parts NoMemory spelled utf8 accepted short = tt
no_replay bytes room log parts TooLong spelled utf8 accepted short = absurd short
no_replay bytes room log parts (NoScene why) spelled utf8 accepted short = absurd short
