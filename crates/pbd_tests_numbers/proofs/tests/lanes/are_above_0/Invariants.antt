use Rattle.std.proofs.Common.{ℕ, ◌<◌, pos, ◌<ℤ◌}
use Rattle.pbd_lanes.specs.Lane.{lane}
use Rattle.pbd_tests_numbers.proofs.tests.lanes.are_above_0.Given as goal

abbrev pub invariant-loop-j : goal.invariant-loop-j
invariant-loop-j g l = (k : ℕ) → k < l.j → pos 0 <ℤ lane l.numbers k
