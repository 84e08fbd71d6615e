use Rattle.std.proofs.Common.{◌≡◌, take}
use Rattle.pbd_step.proofs.open.copied_tracks.Given as goal

-- what stood before was copied
abbrev pub invariant-loop-track : goal.invariant-loop-track
invariant-loop-track l = l.list ≡ take l.track-index l.tracks
