use Rattle.std.proofs.Common.{◌-◌, length}
use Rattle.pbd_colour.specs.Marked.{AreAsMany}
use Rattle.pbd_colour.proofs.Marking.{IsSweeping}
use Rattle.pbd_colour.proofs.mend.sweep.Given as goal

abbrev pub invariant-loop-i : goal.invariant-loop-i
invariant-loop-i l = record {
  sweeping : IsSweeping l.held.pairs.now l.held.live.now l.colours l.marks.entries l.i;
  sized : AreAsMany l.fn.marks l.marks;
}

abbrev pub decreases-loop-i : goal.decreases-loop-i
decreases-loop-i l = length l.held.pairs.now - l.i
