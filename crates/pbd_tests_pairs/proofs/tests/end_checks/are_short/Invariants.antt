use Rattle.std.proofs.Common.{◌≡◌, ℕ, ◌<◌, ◌^◌, pos}
use Rattle.pbd_num.specs.Rows.{vector_of}
use Rattle.pbd_num.specs.Vectors.{Within}
use Rattle.pbd_store.specs.Pairs.{row_in}
use Rattle.pbd_tests_pairs.proofs.tests.end_checks.are_short.Given as goal

abbrev pub invariant-loop-way : goal.invariant-loop-way
invariant-loop-way l = record {
  sizes : (k : ℕ) → k < l.way-index → Within (2 ^ 16) (vector_of (row_in l.ways k));
  flags : (k : ℕ) → k < l.way-index → (row_in l.ways k).flag ≡ pos 0;
}
