use Rattle.std.proofs.Common.{ℕ, ◌<◌, ◌≤ℤ◌}
use Rattle.pbd_pair.specs.Laid.{number_in}
use Rattle.pbd_pair.proofs.wide.least_of.Given as goal

abbrev pub invariant-loop-j : goal.invariant-loop-j
invariant-loop-j l = (i : ℕ) → i < l.j → l.least ≤ℤ number_in l.numbers i
