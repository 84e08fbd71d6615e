use Rattle.std.proofs.Common.{◌≡◌, ◌++◌, replicate}
use Rattle.pbd_store.proofs.rows.padded.Given as goal

abbrev pub invariant-loop : goal.invariant-loop
invariant-loop g l = l.column.items ≡ l.fn.column.items ++ replicate l.counter l.zero
