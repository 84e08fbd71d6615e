use Rattle.std.proofs.Common.{◌≡◌, ℕ, ◌<◌, pos, get_or}
use Rattle.pbd_world.specs.Particles.{particle_at, effective_weight}
use Rattle.pbd_store.specs.Gathering.{index_at}
use Rattle.pbd_store.proofs.store.Store.take_weights.Given as goal

abbrev pub invariant-loop-j : goal.invariant-loop-j
invariant-loop-j g l = record {
  ways : l.between.ways ≡ l.initial.between.ways;
  first : (k : ℕ) → k < l.j → get_or l.between.first_weight k (pos 0)
      ≡ pos (effective_weight (particle_at l.self.particles (index_at l.pairs.first.now k)));
  second : (k : ℕ) → k < l.j → get_or l.between.second_weight k (pos 0)
      ≡ pos (effective_weight (particle_at l.self.particles (index_at l.pairs.second.now k)));
}
