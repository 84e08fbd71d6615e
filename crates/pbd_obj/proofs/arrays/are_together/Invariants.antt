use Rattle.std.proofs.Common.{◌≡◌, ◌+◌, take}
use Rattle.std.specs.Prelude.{sum}
use Rattle.pbd_obj.proofs.arrays.are_together.Given as goal

-- what is left, and the sizes so far
abbrev pub invariant-loop-size : goal.invariant-loop-size
invariant-loop-size l = l.left + sum (take l.size-index l.sizes) ≡ l.corners
