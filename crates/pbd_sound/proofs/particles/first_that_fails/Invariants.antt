use Rattle.std.proofs.Common.{◌≡◌, ◌+◌, ◌≤◌, drop}
use Rattle.pbd_sound.specs.Soundness.{first_where}
use Rattle.pbd_sound.specs.Tests.{fails}
use Rattle.pbd_sound.proofs.particles.first_that_fails.Given as goal

-- no particle so far fails
abbrev pub invariant-loop-i : goal.invariant-loop-i
invariant-loop-i g l = record {
  rest : first_where l.i (fails l.test l.store.limit l.tracks) (drop l.i l.store.particles)
      ≡ first_where 0 (fails l.test l.store.limit l.tracks) l.store.particles;
  cost : l.steps ≡ l.initial.steps + l.i;
}
