use Rattle.std.proofs.Common.{drop}
use Rattle.pbd_obj.specs.Facing.{face_edges}
use Rattle.pbd_obj.proofs.FaceByFace.{MadeSoFar}
use Rattle.pbd_obj.proofs.edges.edges_of.Given as goal

-- the edges of the faces so far
abbrev pub invariant-loop-size : goal.invariant-loop-size
invariant-loop-size l = MadeSoFar face_edges l.mesh l.edges (drop l.size-index l.sizes) l.rest
