use Rattle.std.proofs.Common.{ℕ, ◌<◌, ◌^◌}
use Rattle.pbd_num.specs.Vectors.{Within}
use Rattle.pbd_store.specs.Pairs.{moves_in}
use Rattle.pbd_tests_pairs.proofs.tests.end_checks.are_moves.Given as goal

abbrev pub invariant-loop-pair : goal.invariant-loop-pair
invariant-loop-pair l = record {
  first : (k : ℕ) → k < l.pair-index → Within (2 ^ 31) (moves_in l.moves k).first;
  second : (k : ℕ) → k < l.pair-index → Within (2 ^ 31) (moves_in l.moves k).second;
}
