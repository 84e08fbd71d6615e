use Rattle.pbd_near.proofs.Rows.{Found}
use Rattle.pbd_near.proofs.Near.moves.Given as goal

abbrev pub invariant-loop-j : goal.invariant-loop-j
invariant-loop-j l = Found l.j l.self.ways l.rest l.factor l.contact l.all l.moves
