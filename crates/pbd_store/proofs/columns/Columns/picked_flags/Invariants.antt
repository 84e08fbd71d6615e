use Rattle.std.proofs.Common.{false}
use Rattle.pbd_lanes.specs.Lane.{is_set}
use Rattle.pbd_store.specs.Gathering.{index_at}
use Rattle.pbd_store.proofs.Filling.{Filled}
use Rattle.pbd_store.proofs.columns.Columns.picked_flags.Given as goal

abbrev pub invariant-loop-j : goal.invariant-loop-j
invariant-loop-j g l = Filled false g.row.L (λ k. is_set l.self-inside.held.items (index_at l.rows k)) l.j l.flags
