use Rattle.std.proofs.Common.{pos, get_or}
use Rattle.pbd_store.specs.Gathering.{index_at}
use Rattle.pbd_store.proofs.Filling.{Filled}
use Rattle.pbd_store.proofs.columns.picked_weights.Given as goal

abbrev pub invariant-loop-j : goal.invariant-loop-j
invariant-loop-j g l = Filled (pos 0) g.row.L (λ k. pos (get_or l.column (index_at l.rows k) 0)) l.j l.values
