use Rattle.std.proofs.Common.{◌≡◌, ◌++◌, length, take}
use Rattle.std.specs.Io.KnownBytes.{Appends}
use Rattle.std.specs.List.{flat_map}
use Rattle.pbd_log.specs.Entries.{entry_bytes}
use Rattle.pbd_log.specs.Logs.{header_bytes}
use Rattle.pbd_tests_text.proofs.tests.log.write_log.Given as goal

-- so many entries are written, and these are their bytes
abbrev pub invariant-loop-entry : goal.invariant-loop-entry
invariant-loop-entry g l = (l.writer ≡ l.entry-index) × Appends (g.K.Sink.written l.fn.sink) (g.K.Sink.written l.sink)
    ((header_bytes 2 l.limit (length l.scene) ++ l.scene) ++ flat_map entry_bytes (take l.entry-index l.entries))
