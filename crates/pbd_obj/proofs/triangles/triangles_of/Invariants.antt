use Rattle.std.proofs.Common.{drop}
use Rattle.pbd_obj.specs.Triangles.{fan}
use Rattle.pbd_obj.proofs.FaceByFace.{MadeSoFar}
use Rattle.pbd_obj.proofs.triangles.triangles_of.Given as goal

-- the triangles of the faces so far
abbrev pub invariant-loop-size : goal.invariant-loop-size
invariant-loop-size l = MadeSoFar fan l.mesh l.triangles (drop l.size-index l.sizes) l.rest
