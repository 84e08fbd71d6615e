use Rattle.pbd_colour.specs.Marked.{AreUnmarked}
use Rattle.pbd_colour.proofs.marks.first_between.Given as goal

abbrev pub invariant-loop-k : goal.invariant-loop-k
invariant-loop-k l = AreUnmarked l.marks l.from l.k
