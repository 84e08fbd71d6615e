-- The places in the lanes of a block.
use Rattle.std.proofs.Common.{◌≡◌, sym, ap, ◌∙◌, ℕ, ◌+◌, ◌*◌, ◌<◌, ◌≤◌, List, length, get_or, slice_set, arith, subst, inl, inr}
use Rattle.std.proofs.lemmas.Bool.{cases_lt}
use Rattle.std.proofs.lemmas.List.{get_or-set_same, get_or-set_other}
use Rattle.pbd_num.specs.declared.Vec3.{Vec3}
use Rattle.pbd_num.specs.Vectors.{Within, zero_vector}
use Rattle.pbd_world.specs.declared.parts.Particle.{Particle}
use Rattle.pbd_world.specs.Particles.{particle_at}
use Rattle.pbd_num.proofs.Below.{split_below}

-- the place of lane j
abbrev pub at_of : ℕ → ℕ → List Particle → ℕ → Vec3
at_of n block ps j = (particle_at ps (block * n + j)).at

-- the place before of lane j
abbrev pub before_of : ℕ → ℕ → List Particle → ℕ → Vec3
before_of n block ps j = (particle_at ps (block * n + j)).before

-- place j of a list
abbrev pub place_in : List Vec3 → ℕ → Vec3
place_in places j = get_or places j zero_vector

-- places of which one more is set
pub places_more : (places : List Vec3) (j : ℕ) (v : Vec3) (k : ℕ) → k < j
    → get_or places k zero_vector ≡ get_or (slice_set places j v) k zero_vector
places_more places j v k h = sym (get_or-set_other places j k v zero_vector (λ e. absurd (omega arith)))

pub inside_more : (b : ℕ) (places : List Vec3) (j : ℕ) (v : Vec3) → j < length places
    → ((k : ℕ) → k < j → Within b (get_or places k zero_vector)) → Within b v → (k : ℕ) → k < j + 1
    → Within b (get_or (slice_set places j v) k zero_vector)
inside_more b places j v room h w k lt = elim (split_below k j lt) [
  | inl p ↦ subst (Within b) (places_more places j v k p) (h k p)
  | inr e ↦ subst (Within b) (sym (get_or-set_same places j v zero_vector room)
      ∙ ap (λ (m : ℕ). get_or (slice_set places j v) m zero_vector) (sym e)) w
]

pub within_at : {a b : ℕ} {v w : Vec3} → a ≡ b → v ≡ w → Within b w → Within a v
within_at ea ev h = coe 1 0 (i. Within (ea i) (ev i)) h

-- a lane that has a particle is one of the first lanes
pub below_count : (j count n start len : ℕ) → (count < n → start + count ≡ len) → count ≤ n → j < n → start + j < len → j < count
below_count j count n start len last le h k = elim (cases_lt count n) [ inl p ↦ (let e = last p in omega arith) | inr p ↦ omega arith ]
