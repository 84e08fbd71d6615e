use Rattle.std.proofs.Common.{ℕ, ◌<◌, ◌≤◌, ◌^◌, unsigned_abs}
use Rattle.pbd_lanes.specs.Lane.{lane}
use Rattle.pbd_tests_numbers.proofs.tests.lanes.are_in_range.Given as goal

abbrev pub invariant-loop-j : goal.invariant-loop-j
invariant-loop-j g l = (k : ℕ) → k < l.j → unsigned_abs (lane l.numbers k) ≤ 2 ^ 29
