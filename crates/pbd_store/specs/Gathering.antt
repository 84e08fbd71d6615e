-- Particles anywhere in the list, read and written together.
use Rattle.std.specs.Prelude.{◌≡◌, ℕ, ◌<◌, ℤ, pos, List, length, Bool, slice_index_or, if◌then◌else◌, IsTrue}
use Rattle.pbd_lanes.specs.Lane.{is_set, lanes_of}
use Rattle.pbd_world.specs.declared.parts.Particle.{Particle}
use Rattle.pbd_world.specs.Particles.{particle_at}
use Rattle.pbd_store.specs.Blocks.{place_of}

-- the index of lane j
abbrev pub index_at : List ℕ → ℕ → ℕ
index_at is j = slice_index_or is j 0

-- what f gives of the particle of each lane that is set, and 0 elsewhere
abbrev pub gathered : ℕ → (Particle → ℤ) → List Particle → List ℕ → List Bool → List ℤ
gathered n f ps is set = lanes_of n (λ j. if is_set set j then f (particle_at ps (index_at is j)) else pos 0)

-- no two of the first n lanes that are set name one particle
abbrev pub NamesApart : ℕ → List ℕ → List Bool → Type 0
NamesApart n is set = (j k : ℕ) → j < k → k < n → IsTrue (is_set set j) → IsTrue (is_set set k) → index_at is j ≡ index_at is k → ⊥

-- each of the first n lanes that is set has placed its particle, and nothing else has changed
pub record Scattered (n : ℕ) (is : List ℕ) (set : List Bool) (xs ys zs : List ℤ) (old new : List Particle) : Type 0 where
  pub whole : length new ≡ length old
  pub lanes : (j : ℕ) → j < n → IsTrue (is_set set j) → particle_at new (index_at is j)
      ≡ record (particle_at old (index_at is j)) { at = place_of xs ys zs j }
  pub others : (i : ℕ) → ((j : ℕ) → j < n → IsTrue (is_set set j) → index_at is j ≡ i → ⊥) → particle_at new i ≡ particle_at old i
