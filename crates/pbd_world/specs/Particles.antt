-- Lists of particles.
use Rattle.std.specs.Prelude.{ℕ, List, Bool, false, slice_index_or, slice_set, if◌then◌else◌, map, fold, not}
use Rattle.pbd_num.specs.declared.Vec3.{Vec3}
use Rattle.pbd_num.specs.Vectors.{zero_vector, minus}
use Rattle.pbd_world.specs.declared.parts.Particle.{Particle}
use Rattle.pbd_world.specs.Ledger.{Ledger, Entry, booked}

abbrev pub no_particle : Particle
no_particle = record { at = zero_vector; before = zero_vector; weight = 0; held = false }

-- particle i
abbrev pub particle_at : List Particle → ℕ → Particle
particle_at ps i = slice_index_or ps i no_particle

-- the list with another place for particle i
abbrev pub placed : List Particle → ℕ → Vec3 → List Particle
placed ps i place = slice_set ps i (record (particle_at ps i) { at = place })

-- how far it came from its place before
abbrev pub velocity : Particle → Vec3
velocity p = minus p.at p.before

abbrev pub is_free : Particle → Bool
is_free p = not p.held

-- a held particle weighs nothing, so that no bond moves it
abbrev pub effective_weight : Particle → ℕ
effective_weight p = if p.held then 0 else p.weight

-- what a step changes as it goes on: the particles, and the ledger
pub record Motion : Type 0 where
  pub particles : List Particle
  pub totals : Ledger

-- a particle after a move, and the entries that the move makes
pub record Moved : Type 0 where
  pub particle : Particle
  pub entries : List Entry

-- the particles as they were moved, with all their entries
abbrev pub all_moved : Ledger → List Moved → Motion
all_moved t ms = record {
  particles = map {A = Moved} {B = Particle} (λ m. m.particle) ms;
  totals = fold {A = Moved} (λ u m. booked u m.entries) t ms;
}
