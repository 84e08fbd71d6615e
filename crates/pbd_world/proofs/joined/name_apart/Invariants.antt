use Rattle.std.proofs.Common.{take}
use Rattle.pbd_world.proofs.TrackedLemmas.{NameApart}
use Rattle.pbd_world.proofs.joined.name_apart.Given as goal

abbrev pub invariant-loop-track : goal.invariant-loop-track
invariant-loop-track l = NameApart l.count (take l.track-index l.tracks) l.flags.items
