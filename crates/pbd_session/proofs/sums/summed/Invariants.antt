use Rattle.std.proofs.Common.{◌≡◌, ◌+◌}
use Rattle.pbd_session.proofs.Summing.{IsSumTo}
use Rattle.pbd_session.proofs.sums.summed.Given as goal

-- both sums are those of the particles so far
abbrev pub invariant-loop-i : goal.invariant-loop-i
invariant-loop-i g l = record {
  at : IsSumTo (λ p. p.at) l.solver.world.particles l.i l.at;
  before : IsSumTo (λ p. p.before) l.solver.world.particles l.i l.before;
  cost : l.steps ≡ l.initial.steps + l.i;
}
