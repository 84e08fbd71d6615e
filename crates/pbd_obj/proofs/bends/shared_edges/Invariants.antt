use Rattle.std.proofs.Common.{take}
use Rattle.pbd_obj.specs.SharedEdges.{HoldsShared}
use Rattle.pbd_obj.proofs.bends.shared_edges.Given as goal

-- the edges so far are counted
abbrev pub invariant-loop-edge : goal.invariant-loop-edge
invariant-loop-edge l = HoldsShared (take l.edge-index l.edges) l.shared
