use Rattle.std.proofs.Common.{ℕ, ◌<◌, ◌^◌}
use Rattle.pbd_num.specs.Vectors.{Within}
use Rattle.pbd_world.specs.Particles.{particle_at}
use Rattle.pbd_tests_parts.proofs.tests.touching.are_inside.Given as goal

abbrev pub invariant-loop-particle : goal.invariant-loop-particle
invariant-loop-particle l = (k : ℕ) → k < l.particle-index → Within (2 ^ 29) (particle_at l.particles k).at
