use Rattle.std.proofs.Common.{◌≢◌, ℕ, ◌<◌}
use Rattle.pbd_world.specs.Colours.{pair_at}
use Rattle.pbd_tests_parts.proofs.tests.pairs.are_in_range.Given as goal

abbrev pub invariant-loop-pair : goal.invariant-loop-pair
invariant-loop-pair l = (k : ℕ) → k < l.pair-index → ((pair_at l.pairs k).0 < l.n) × ((pair_at l.pairs k).1 < l.n)
    × ((pair_at l.pairs k).0 ≢ (pair_at l.pairs k).1)
