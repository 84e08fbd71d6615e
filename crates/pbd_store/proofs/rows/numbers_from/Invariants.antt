use Rattle.std.proofs.Common.{◌+◌}
use Rattle.pbd_store.proofs.Filling.{Filled}
use Rattle.pbd_store.proofs.rows.numbers_from.Given as goal

abbrev pub invariant-loop-j : goal.invariant-loop-j
invariant-loop-j g l = Filled 0 g.row.L (λ k. l.start + k) l.j l.numbers
