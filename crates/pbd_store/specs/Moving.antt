-- What the parts of a step say of a store: where its particles are, and what they leave as it was.
use Rattle.std.specs.Prelude.{ℕ, ◌<◌, ◌≤◌, ℤ, unsigned_abs, List, length, map}
use Rattle.pbd_num.specs.Vectors.{Within, zero_vector}
use Rattle.pbd_world.specs.declared.parts.Particle.{Particle}
use Rattle.pbd_world.specs.declared.totals.Totals.{Totals}
use Rattle.pbd_world.specs.Ledger.{ledger_of}
use Rattle.pbd_world.specs.Particles.{Motion, particle_at}
use Rattle.pbd_store.specs.Stored.{Stored}

-- the particles of a store, with totals
abbrev pub motion_of : Stored → Totals → Motion
motion_of store totals = record { particles = store.particles; totals = ledger_of totals }

-- all but the places
abbrev pub fixed_parts : List Particle → List Particle
fixed_parts ps = map {A = Particle} {B = Particle} (λ p. record p { at = zero_vector }) ps

-- every place is within the limit
pub record AreInside (limit : ℤ) (ps : List Particle) : Type 0 where
  pub each : (i : ℕ) → i < length ps → Within (unsigned_abs limit) (particle_at ps i).at

-- each weight is in 1..=65,535
pub record Weigh (ps : List Particle) : Type 0 where
  pub low : (i : ℕ) → i < length ps → 0 < (particle_at ps i).weight
  pub high : (i : ℕ) → i < length ps → (particle_at ps i).weight ≤ 65535
