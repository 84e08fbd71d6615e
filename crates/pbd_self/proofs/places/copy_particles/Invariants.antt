use Rattle.std.proofs.Common.{◌≡◌, ◌+◌, ◌<◌, ◌≤◌, ◌^◌, unsigned_abs}
use Rattle.pbd_world.specs.declared.parts.Particle.{Particle}
use Rattle.pbd_self.proofs.Copying.{HasFirst}
use Rattle.pbd_self.proofs.places.copy_particles.Given as goal

abbrev pub invariant-loop-i : goal.invariant-loop-i
invariant-loop-i g l = record {
  places : HasFirst (λ (p : Particle). p.at) l.store.particles l.i l.fn.places l.places;
  held : HasFirst (λ (p : Particle). p.held) l.store.particles l.i l.fn.held l.held;
  limit : 0 < l.i → unsigned_abs l.store.limit ≤ 2 ^ 29;
  cost : l.steps ≡ l.fn.steps + l.i;
}
