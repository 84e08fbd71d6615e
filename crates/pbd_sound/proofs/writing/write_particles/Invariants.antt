use Rattle.std.proofs.Common.{◌≡◌, ℕ, ◌+◌, ◌*◌, ◌<◌, length, get_or}
use Rattle.pbd_world.specs.Particles.{particle_at, effective_weight}
use Rattle.pbd_sound.specs.Described.{particle_told}
use Rattle.pbd_sound.proofs.writing.write_particles.Given as goal

-- the particles so far are written
abbrev pub invariant-loop-i : goal.invariant-loop-i
invariant-loop-i g l = record {
  whole : length l.store.particles ≡ length l.other.particles;
  done : (k : ℕ) → k < l.i → particle_at l.store.particles k
      ≡ particle_told (g.D.Described.seen l.described) k (particle_at l.other.particles k);
  listed : length l.weights ≡ length l.other.particles;
  weights : (k : ℕ) → k < l.i → get_or l.weights k 0 ≡ effective_weight (particle_at l.store.particles k);
  limit : l.store.limit ≡ l.initial.store.limit;
  copies : l.store.copies ≡ l.initial.store.copies;
  cost : l.steps ≡ l.initial.steps + 2 * l.i;
}
