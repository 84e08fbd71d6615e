use Rattle.pbd_near.proofs.Rows.{Holds}
use Rattle.pbd_near.proofs.ways.Ways.squares.Given as goal

abbrev pub invariant-loop-j : goal.invariant-loop-j
invariant-loop-j l = Holds l.j l.ways l.self
