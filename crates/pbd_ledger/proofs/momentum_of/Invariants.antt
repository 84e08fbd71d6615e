use Rattle.std.proofs.Common.{◌≡◌, ◌*◌, ◌^◌, drop}
use Rattle.pbd_world.specs.Ledger.{sum_of, SumWithin}
use Rattle.pbd_world.specs.Momentum.{momentum}
use Rattle.pbd_ledger.proofs.Adding.{momentum_from}
use Rattle.pbd_ledger.proofs.momentum_of.Given as goal

-- the sum so far, and the momentum of what is left, make the whole
abbrev pub invariant-loop-i : goal.invariant-loop-i
invariant-loop-i l = record {
  rest : momentum_from (sum_of l.sum) (drop l.i l.particles) ≡ momentum l.particles;
  size : SumWithin (2 ^ 64 * l.i) (sum_of l.sum);
}
