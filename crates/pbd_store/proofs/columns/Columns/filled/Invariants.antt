use Rattle.std.proofs.Common.{false, ◌+◌, nat_lt}
use Rattle.pbd_store.proofs.Filling.{Filled}
use Rattle.pbd_store.proofs.columns.Columns.filled.Given as goal

abbrev pub invariant-loop-j : goal.invariant-loop-j
invariant-loop-j g l = Filled false g.row.L (λ k. nat_lt (l.start + k) l.count) l.j l.set
