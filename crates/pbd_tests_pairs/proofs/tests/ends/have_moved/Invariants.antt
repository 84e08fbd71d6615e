use Rattle.std.proofs.Common.{◌≡◌, ◌+◌}
use Rattle.pbd_tests_pairs.proofs.tests.ends.have_moved.Given as goal

abbrev pub invariant-loop-i : goal.invariant-loop-i
invariant-loop-i g l = l.steps ≡ l.initial.steps + l.i
