use Rattle.std.proofs.Common.{length, cond}
use Rattle.pbd_lanes.specs.Lane.{is_set}
use Rattle.pbd_store.specs.Gathering.{index_at}
use Rattle.pbd_store.proofs.Filling.{Filled}
use Rattle.pbd_store.proofs.columns.Columns.rows.Given as goal

abbrev pub invariant-loop-j : goal.invariant-loop-j
invariant-loop-j g l = Filled 0 g.row.L (λ k. cond (is_set l.set k) (index_at l.indices k) (length l.self)) l.j l.rows
