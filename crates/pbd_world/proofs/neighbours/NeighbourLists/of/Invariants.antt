use Rattle.std.proofs.Common.{take}
use Rattle.pbd_world.specs.Neighbours.{HoldsNeighbours}
use Rattle.pbd_world.proofs.neighbours.NeighbourLists.of.Given as goal

-- the neighbours by the links so far
abbrev pub invariant-loop-link : goal.invariant-loop-link
invariant-loop-link l = HoldsNeighbours l.count (take l.link-index l.links) l.lists
