-- The start of a step: free particles fly on, and held ones rest.
use Rattle.std.specs.Prelude.{◌≡◌, ℕ, zero, suc, ◌*◌, ◌<◌, ◌≤◌, ◌^◌, ℤ, pos, ◌+ℤ◌, ◌-ℤ◌, ◌*ℤ◌, ◌≤ℤ◌, unsigned_abs, Bool, false, not, if◌then◌else◌, IsTrue}
use Rattle.std.specs.Prelude.{List, length}
use Rattle.pbd_num.specs.declared.Vec3.{Vec3}
use Rattle.pbd_num.specs.Rounding.{rdiv}
use Rattle.pbd_num.specs.Vectors.{Within, is_within}
use Rattle.pbd_world.specs.declared.parts.Particle.{Particle}
use Rattle.pbd_world.specs.Particles.{is_free, particle_at}
use Rattle.pbd_lanes.specs.Lane.{is_set}
use Rattle.pbd_store.specs.InRows.{high_at, place_by, place_in, row_at}
use Rattle.pbd_store.specs.Listed.{place_at}
use Rattle.pbd_store.specs.declared.rows.High.{High}
use Rattle.pbd_store.specs.declared.rows.Place.{Place}
use Rattle.pbd_store.specs.declared.flight.Forces.{Forces}
use Rattle.pbd_store.specs.declared.flight.Flown.{Flown}
use Rattle.pbd_store.specs.declared.fly.FlightSums.{FlightSums}
use Rattle.pbd_store.specs.Reaching.{Covers}

-- what acts on particles is as small as in worlds
pub record IsSmall (forces : Forces) : Type 0 where
  pub damping : unsigned_abs forces.damping ≤ 1024
  pub gravity : Within (2 ^ 29) forces.gravity
  pub low : pos 0 ≤ℤ forces.limit
  pub high : unsigned_abs forces.limit ≤ 2 ^ 29

-- what damping takes on an axis of a particle that flies
abbrev pub loss_at : ℤ → Bool → ℤ → ℤ → ℤ
loss_at damping flies at before = if flies then rdiv ((at -ℤ before) *ℤ damping) (pos 1024) else pos 0

-- where it comes to; a particle that doesn't fly stays
abbrev pub flown_at : ℤ → ℤ → Bool → ℤ → ℤ → ℤ
flown_at damping gravity flies at before = if flies then at +ℤ ((at -ℤ before) -ℤ loss_at damping flies at before) +ℤ gravity else at

-- what gravity adds to it
abbrev pub pull_at : ℤ → Bool → ℤ
pull_at gravity flies = if flies then gravity else pos 0

-- the same of three axes
abbrev pub losses_at : ℤ → Bool → Vec3 → Vec3 → Vec3
losses_at damping flies at before = record {
  x = loss_at damping flies at.x before.x;
  y = loss_at damping flies at.y before.y;
  z = loss_at damping flies at.z before.z;
}

abbrev pub places_at : ℤ → Vec3 → Bool → Vec3 → Vec3 → Vec3
places_at damping gravity flies at before = record {
  x = flown_at damping gravity.x flies at.x before.x;
  y = flown_at damping gravity.y flies at.y before.y;
  z = flown_at damping gravity.z flies at.z before.z;
}

-- a particle after its flight
abbrev pub after_flight : Forces → Particle → Particle
after_flight forces p = record p { at = places_at forces.damping forces.gravity (is_free p) p.at p.before; before = p.at }

-- what damping takes of it
abbrev pub lost_by : Forces → Particle → Vec3
lost_by forces p = losses_at forces.damping (is_free p) p.at p.before

-- it stays within the limit
abbrev pub stays_in : Forces → Particle → Bool
stays_in forces p = is_within forces.limit (after_flight forces p).at

abbrev pub one_if : Bool → ℤ
one_if free = if free then pos 1 else pos 0

-- the sum of what f gives at each number below n
unfoldable pub sum_below : (ℕ → ℤ) → ℕ → ℤ
sum_below f zero = pos 0
sum_below f (suc n) = sum_below f n +ℤ f n

-- the same of three axes
abbrev pub sums_below : (ℕ → Vec3) → ℕ → Vec3
sums_below f n = record { x = sum_below (λ j. (f j).x) n; y = sum_below (λ j. (f j).y) n; z = sum_below (λ j. (f j).z) n }

-- all particles stay within the limit: so many of them are free, and damping takes so much of all of them together
pub record AllStay (forces : Forces) (ps : List Particle) (flown : Flown) : Type 0 where
  pub within : (i : ℕ) → i < length ps → IsTrue (stays_in forces (particle_at ps i))
  pub free : flown.free ≡ sum_below (λ i. one_if (is_free (particle_at ps i))) (length ps)
  pub lost : flown.lost ≡ sums_below (λ i. lost_by forces (particle_at ps i)) (length ps)
  pub few : unsigned_abs flown.free ≤ 65536
  pub small : Within (2 ^ 46) flown.lost

-- particle i is the first that would leave the limit
pub record LeavesFirst (forces : Forces) (ps : List Particle) (i : ℕ) : Type 0 where
  pub one : i < length ps
  pub before : (j : ℕ) → j < i → IsTrue (stays_in forces (particle_at ps j))
  pub leaves : stays_in forces (particle_at ps i) ≡ false

-- the first n of some places are given by f, and the others have not changed
pub record WrittenFirst (n : ℕ) (f : ℕ → Vec3) (old new : List Vec3) : Type 0 where
  pub whole : length new ≡ length old
  pub first : (j : ℕ) → j < n → place_at new j ≡ f j
  pub others : (j : ℕ) → n ≤ j → place_at new j ≡ place_at old j

-- particle i is the first outside the limit
pub record IsOutside (i : ℕ) (limit : ℤ) (ps : List Particle) : Type 0 where
  pub one : i < length ps
  pub before : (j : ℕ) → j < i → IsTrue (is_within limit (particle_at ps j).at)
  pub leaves : is_within limit (particle_at ps i).at ≡ false

-- particle j is free by these flags of the held ones
abbrev pub are_free : List Bool → ℕ → Bool
are_free held j = not (is_set held j)

-- the place of low row j and the high halves at j
abbrev pub halves_at : List Place → List High → ℕ → Vec3
halves_at low high j = place_by (place_in low j) (high_at high j)

-- of places whose low rows are `at` and whose high halves are `high`, and of low rows of those before, the first n have flown, and the
-- others have not changed
pub record WrittenRows (forces : Forces) (held : List Bool) (n : ℕ) (at : List Place) (high : List High) (before at' : List Place)
    (high' : List High) (before' : List Place) : Type 0 where
  pub whole : length at' ≡ length at
  pub whole_high : length high' ≡ length high
  pub whole_before : length before' ≡ length before
  pub to : (j : ℕ) → j < n
      → halves_at at' high' j ≡ places_at forces.damping forces.gravity (not (is_set held j)) (place_in at j) (place_in before j)
  pub flat : (j : ℕ) → j < n → (row_at at' j).spare ≡ pos 0
  pub was : (j : ℕ) → j < n → row_at before' j ≡ row_at at j
  pub still : (j : ℕ) → n ≤ j → row_at at' j ≡ row_at at j
  pub still_high : (j : ℕ) → n ≤ j → high_at high' j ≡ high_at high j
  pub still_before : (j : ℕ) → n ≤ j → row_at before' j ≡ row_at before j

-- the first n of some particles, of which `flies` tells who is free, have flown between these places, and are summed up
pub record AreSummed (forces : Forces) (n : ℕ) (flies : ℕ → Bool) (at before to : ℕ → Vec3) (sums : FlightSums) : Type 0 where
  pub free : sums.free ≡ sum_below (λ j. one_if (flies j)) n
  pub lost : sums.lost ≡ sums_below (λ j. losses_at forces.damping (flies j) (at j) (before j)) n
  pub few : unsigned_abs sums.free ≤ n
  pub small : Within (n * 2 ^ 30) sums.lost
  pub reach : (j : ℕ) → j < n → Covers sums.reach forces.limit (to j)
