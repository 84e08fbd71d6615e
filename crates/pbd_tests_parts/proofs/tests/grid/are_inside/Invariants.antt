use Rattle.std.proofs.Common.{ℕ, ◌<◌, ◌^◌}
use Rattle.pbd_num.specs.Vectors.{Within}
use Rattle.pbd_grid.specs.Near.{place_at}
use Rattle.pbd_tests_parts.proofs.tests.grid.are_inside.Given as goal

abbrev pub invariant-loop-place : goal.invariant-loop-place
invariant-loop-place l = (k : ℕ) → k < l.place-index → Within (2 ^ 29) (place_at l.places k)
