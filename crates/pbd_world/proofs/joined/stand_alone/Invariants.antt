use Rattle.std.proofs.Common.{take}
use Rattle.pbd_world.proofs.ApartLemmas.{StandAlone}
use Rattle.pbd_world.proofs.joined.stand_alone.Given as goal

abbrev pub invariant-loop-link : goal.invariant-loop-link
invariant-loop-link l = StandAlone l.count (take l.link-index l.links) l.lists
