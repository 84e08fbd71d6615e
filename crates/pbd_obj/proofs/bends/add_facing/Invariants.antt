use Rattle.pbd_obj.proofs.SharedLemmas.{FacingSoFar}
use Rattle.pbd_obj.proofs.bends.add_facing.Given as goal

-- what faces each other across the edges so far was added
abbrev pub invariant-loop-edge : goal.invariant-loop-edge
invariant-loop-edge l = FacingSoFar l.mesh l.settings l.all.edges.now l.fn.found l.found l.edge-index
