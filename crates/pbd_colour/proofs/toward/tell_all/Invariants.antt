use Rattle.pbd_colour.proofs.Telling.{AreFirstTold}
use Rattle.pbd_colour.proofs.toward.tell_all.Given as goal

abbrev pub invariant-loop-i : goal.invariant-loop-i
invariant-loop-i l = AreFirstTold l.pairs l.sets l.i
