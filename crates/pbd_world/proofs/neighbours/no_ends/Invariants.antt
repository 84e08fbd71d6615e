use Rattle.std.proofs.Common.{[]}
use Rattle.pbd_world.specs.Neighbours.{HoldsNeighbours}
use Rattle.pbd_world.proofs.neighbours.no_ends.Given as goal

abbrev pub invariant-loop-n : goal.invariant-loop-n
invariant-loop-n l = HoldsNeighbours l.n [] l.ends.items
