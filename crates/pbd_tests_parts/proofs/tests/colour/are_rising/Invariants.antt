use Rattle.std.proofs.Common.{ℕ, ◌<◌, ◌+◌, get_or, length}
use Rattle.pbd_tests_parts.proofs.tests.colour.are_rising.Given as goal

abbrev pub invariant-loop-k : goal.invariant-loop-k
invariant-loop-k l = record {
  below : (j : ℕ) → j < l.k → get_or l.numbers j 0 < l.n;
  rising : (j : ℕ) → j < l.k → j + 1 < length l.numbers → get_or l.numbers j 0 < get_or l.numbers (j + 1) 0;
}
