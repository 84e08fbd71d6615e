use Rattle.pbd_colour.proofs.Painting.{IsPainted}
use Rattle.pbd_colour.proofs.paint.paint.Given as goal

abbrev pub invariant-loop-i : goal.invariant-loop-i
invariant-loop-i l = IsPainted l.pairs l.live l.used l.colours l.i
