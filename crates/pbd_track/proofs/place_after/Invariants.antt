use Rattle.std.proofs.Common.{◌≡◌, ◌≤◌, drop}
use Rattle.pbd_world.specs.Tracks.{place_after}
use Rattle.pbd_track.specs.Tracking.{IsKey}
use Rattle.pbd_track.proofs.place_after.Given as goal

-- the way from the key that was reached is the way from the first
abbrev pub invariant-loop-key : goal.invariant-loop-key
invariant-loop-key l = record {
  same : place_after l.from (drop l.key-index l.later) l.t ≡ place_after l.fn.first l.later l.t;
  key : IsKey l.from;
  after : l.from.step ≤ l.t;
}
