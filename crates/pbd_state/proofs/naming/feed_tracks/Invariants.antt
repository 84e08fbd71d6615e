use Rattle.std.proofs.Common.{◌++◌, length, take}
use Rattle.std.specs.List.{flat_map}
use Rattle.pbd_log.specs.Entries.{number_bytes}
use Rattle.pbd_encoding.specs.Scene.{track_bytes}
use Rattle.pbd_encoding.specs.Feeding.{Fed}
use Rattle.pbd_state.proofs.naming.feed_tracks.Given as goal

-- how many tracks there are, and the tracks so far, were fed
abbrev pub invariant-loop-track : goal.invariant-loop-track
invariant-loop-track l = Fed l.fn.hasher l.hasher (number_bytes 4 (length l.tracks) ++ flat_map track_bytes (take l.track-index l.tracks))
