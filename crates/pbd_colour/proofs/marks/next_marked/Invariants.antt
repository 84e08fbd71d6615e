use Rattle.std.proofs.Common.{◌-◌, ◌≤◌, length}
use Rattle.pbd_colour.specs.Marked.{AreUnmarked}
use Rattle.pbd_colour.proofs.marks.next_marked.Given as goal

abbrev pub invariant-loop-at : goal.invariant-loop-at
invariant-loop-at l = record {
  above : l.from ≤ l.at;
  below : l.at ≤ length l.marks;
  unmarked : AreUnmarked l.marks l.from l.at;
}

abbrev pub decreases-loop-at : goal.decreases-loop-at
decreases-loop-at l = length l.marks - l.at
