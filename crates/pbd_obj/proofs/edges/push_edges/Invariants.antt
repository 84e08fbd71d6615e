use Rattle.std.proofs.Common.{◌≡◌, ◌++◌, length}
use Rattle.pbd_obj.specs.Facing.{edge, face_edges}
use Rattle.pbd_obj.proofs.FaceByFace.{from_number}
use Rattle.pbd_obj.proofs.edges.push_edges.Given as goal

-- those so far, and those still to come
abbrev pub invariant-loop-i : goal.invariant-loop-i
invariant-loop-i l = l.edges ++ from_number (edge l.face) (length l.face) l.i ≡ l.fn.edges ++ face_edges l.face
