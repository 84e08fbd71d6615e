-- Blocks of neighbouring particles, read and written together.
use Rattle.std.specs.Prelude.{◌≡◌, ℕ, ◌+◌, ◌*◌, ◌<◌, ℤ, List, length, Bool, IsTrue, nat_lt}
use Rattle.pbd_num.specs.declared.Vec3.{Vec3}
use Rattle.pbd_lanes.specs.Lane.{lane, is_set, lanes_of}
use Rattle.pbd_world.specs.declared.parts.Particle.{Particle}
use Rattle.pbd_world.specs.Particles.{particle_at}
use Rattle.pbd_world.specs.Work.{pieces_of}

-- how many blocks of n hold m
abbrev pub blocks_of : ℕ → ℕ → ℕ
blocks_of m n = pieces_of m n

-- what f gives of the n particles of a block: past the last particle of the list, of no particle, whose numbers are 0
abbrev pub loaded : {A : Type 0} → ℕ → ℕ → (Particle → A) → List Particle → List A
loaded n block f ps = lanes_of n (λ j. f (particle_at ps (block * n + j)))

-- the lanes of a block that have a particle
abbrev pub filled_lanes : ℕ → ℕ → List Particle → List Bool
filled_lanes n block ps = lanes_of n (λ j. nat_lt (block * n + j) (length ps))

-- the place in lane j
abbrev pub place_of : List ℤ → List ℤ → List ℤ → ℕ → Vec3
place_of xs ys zs j = record { x = lane xs j; y = lane ys j; z = lane zs j }

-- each of the n particles from `start` on whose lane is set has the places of its lane, and nothing else has changed
pub record Saved (n start : ℕ) (set : List Bool) (at before : ℕ → Vec3) (old new : List Particle) : Type 0 where
  pub whole : length new ≡ length old
  pub lanes : (j : ℕ) → j < n → start + j < length old → IsTrue (is_set set j) → particle_at new (start + j)
      ≡ record (particle_at old (start + j)) { at = at j; before = before j }
  pub others : (i : ℕ) → ((j : ℕ) → j < n → IsTrue (is_set set j) → start + j ≡ i → ⊥) → particle_at new i ≡ particle_at old i
