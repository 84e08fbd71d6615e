use Rattle.std.proofs.Common.{◌≡◌, ◌+◌, drop}
use Rattle.pbd_track.proofs.Following.{Following}
use Rattle.pbd_track.proofs.place.Given as goal

-- the tracks so far have placed their particles
abbrev pub invariant-loop-track : goal.invariant-loop-track
invariant-loop-track g l = record {
  following : Following (drop l.track-index l.tracks) l.tracks l.t l.initial.store.limit l.initial.store.particles l.store.particles;
  limit : l.store.limit ≡ l.initial.store.limit;
  copies : l.store.copies ≡ l.initial.store.copies;
  cost : l.steps ≡ l.initial.steps + l.track-index;
}
