-- What a store is seen as.
use Rattle.std.specs.Prelude.{ℕ, ℤ, List}
use Rattle.pbd_world.specs.declared.parts.Particle.{Particle}

-- a list of particles, the limit within which their places are to stay, and how often all of them were taken over at once
pub record Stored : Type 0 where
  pub particles : List Particle
  pub limit : ℤ
  pub copies : ℕ
