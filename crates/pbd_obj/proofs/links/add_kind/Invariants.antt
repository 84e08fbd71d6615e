use Rattle.std.proofs.Common.{drop}
use Rattle.pbd_obj.proofs.NetLemmas.{FacesSoFar}
use Rattle.pbd_obj.proofs.links.add_kind.Given as goal

-- the links of the faces so far were added
abbrev pub invariant-loop-size : goal.invariant-loop-size
invariant-loop-size l = FacesSoFar l.settings l.mesh l.kind l.fn.found l.found (drop l.size-index l.sizes) l.rest
