use Rattle.std.proofs.Common.{length}
use Rattle.pbd_script.specs.Lines.{words}
use Rattle.pbd_obj.proofs.FaceLemmas.{FaceSoFar}
use Rattle.pbd_obj.proofs.reading.push_face.Given as goal

-- the corners of the words before these were pushed, and are marked
abbrev pub invariant-loop-word : goal.invariant-loop-word
invariant-loop-word l = FaceSoFar l.vertices l.fn.corners (words l.rest) (words l.ahead) l.corners l.named

abbrev pub decreases-loop-word : goal.decreases-loop-word
decreases-loop-word l = length (words l.ahead)
