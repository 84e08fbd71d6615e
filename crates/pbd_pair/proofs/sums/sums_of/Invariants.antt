use Rattle.std.proofs.Common.{ℕ}
use Rattle.std.specs.Prelude.{not}
use Rattle.pbd_pair.specs.Laid.{number_in}
use Rattle.pbd_pair.specs.Chunks.{has_held}
use Rattle.pbd_pair.proofs.Summing.{Summed}
use Rattle.pbd_pair.proofs.sums.sums_of.Given as goal

abbrev pub invariant-loop-j : goal.invariant-loop-j
invariant-loop-j l = record {
  pins : Summed (λ (k : ℕ). has_held (number_in l.found.laid.first_weight.now k) (number_in l.found.laid.second_weight.now k)) l.back l.forth
      l.j l.pins;
  own : Summed (λ (k : ℕ). not (has_held (number_in l.found.laid.first_weight.now k) (number_in l.found.laid.second_weight.now k))) l.back
      l.forth l.j l.own;
}
