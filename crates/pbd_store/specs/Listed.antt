-- Columns as a list of particles: the places, the weights, and which are held.
use Rattle.std.specs.Prelude.{◌≡◌, ℕ, ◌+◌, ◌≤◌, List, length, Bool, slice_index_or}
use Rattle.pbd_num.specs.declared.Vec3.{Vec3}
use Rattle.pbd_num.specs.Vectors.{zero_vector}
use Rattle.pbd_lanes.specs.Lane.{is_set, lanes_of}
use Rattle.pbd_world.specs.declared.parts.Particle.{Particle}
use Rattle.pbd_world.specs.Particles.{no_particle, effective_weight}

-- the place at i
abbrev pub place_at : List Vec3 → ℕ → Vec3
place_at places i = slice_index_or places i zero_vector

-- particle i
abbrev pub row : List Vec3 → List Vec3 → List ℕ → List Bool → ℕ → Particle
row at before weight held i = record {
  at = place_at at i;
  before = place_at before i;
  weight = slice_index_or weight i 0;
  held = is_set held i;
}

-- the first n particles
abbrev pub listed : ℕ → List Vec3 → List Vec3 → List ℕ → List Bool → List Particle
listed n at before weight held = lanes_of n (row at before weight held)

-- columns of n particles, at most 65,536, and `spare` rows of zeros
pub record ArePadded (n spare : ℕ) (at before : List Vec3) (weight : List ℕ) (held : List Bool) : Type 0 where
  pub size : n ≤ 65536
  pub places : length at ≡ n + spare
  pub befores : length before ≡ n + spare
  pub weights : length weight ≡ n + spare
  pub flags : length held ≡ n + spare
  pub padding : (k : ℕ) → n ≤ k → row at before weight held k ≡ no_particle

-- the same, and a column of the effective weights, so that one read gives a row's
pub record AreKept (n spare : ℕ) (at before : List Vec3) (weight : List ℕ) (held : List Bool) (effective : List ℕ) : Type 0 where
  pub padded : ArePadded n spare at before weight held
  pub long : length effective ≡ n + spare
  pub weighs : (k : ℕ) → slice_index_or effective k 0 ≡ effective_weight (row at before weight held k)
