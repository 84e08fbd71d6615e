use Rattle.pbd_obj.proofs.ArrayLemmas.{CornersSoFar}
use Rattle.pbd_obj.proofs.arrays.is_face_of.Given as goal

-- the corners so far are vertices, and each is there once
abbrev pub invariant-loop-corner : goal.invariant-loop-corner
invariant-loop-corner l = CornersSoFar l.vertices l.face l.corner-index l.named
