use Rattle.std.proofs.Common.{ℕ, ◌<◌, IsTrue}
use Rattle.pbd_num.specs.Vectors.{is_within}
use Rattle.pbd_store.specs.Listed.{place_at}
use Rattle.pbd_store.proofs.columns.Columns.first_outside.Given as goal

abbrev pub invariant-loop-i : goal.invariant-loop-i
invariant-loop-i g l = record { below : (k : ℕ) → k < l.i → IsTrue (is_within l.fn.limit (place_at l.self-inside.at k)) }
