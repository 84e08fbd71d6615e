use Rattle.std.proofs.Common.{◌≡◌, ◌++◌, length}
use Rattle.pbd_obj.specs.Triangles.{fan, fan_triangle}
use Rattle.pbd_obj.proofs.FaceByFace.{from_number}
use Rattle.pbd_obj.proofs.triangles.push_fan.Given as goal

-- those so far, and those still to come
abbrev pub invariant-loop-i : goal.invariant-loop-i
invariant-loop-i l = l.triangles ++ from_number (fan_triangle l.face) (length l.face) l.i ≡ l.fn.triangles ++ fan l.face
