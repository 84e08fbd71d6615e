use Rattle.pbd_obj.proofs.ArrayLemmas.{GoodSoFar}
use Rattle.pbd_obj.proofs.arrays.first_bad_face.Given as goal

-- the faces so far are faces
abbrev pub invariant-loop-i : goal.invariant-loop-i
invariant-loop-i l = GoodSoFar l.vertices l.sizes l.corners l.i l.rest
