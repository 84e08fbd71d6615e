-- The log of a session.
use Rattle.std.specs.Prelude.{ℕ, ℤ, List, ◌++◌, length, map}
use Rattle.std.specs.List.{flat_map}
use Rattle.pbd_world.specs.declared.command.Command.{Command}
use Rattle.pbd_world.specs.World.{World}
use Rattle.pbd_world.specs.Replay.{LogEntry, logged}
use Rattle.pbd_log.specs.declared.entry.Entry.{Entry}
use Rattle.pbd_log.specs.Entries.{entry_bytes, entry_of}
use Rattle.pbd_log.specs.Logs.{header_bytes, end_bytes}

-- the entries that a log has of a session
abbrev pub entries_of : World → List Command → List Entry
entries_of w commands = map {A = LogEntry} {B = Entry} entry_of (logged w commands)

-- the parts of a log of version 2, one after the other
unfoldable pub log_bytes : ℤ → List ℕ → List Entry → List ℕ
log_bytes limit scene entries = (header_bytes 2 limit (length scene) ++ scene) ++ flat_map entry_bytes entries ++ end_bytes (length entries)
