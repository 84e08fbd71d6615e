-- The contacts of a list of particles: all pairs, filtered.
use Rattle.std.specs.Prelude.{◌≡◌, ◌⊎◌, ℕ, ◌+◌, ◌-◌, ◌*◌, ◌<◌, nat_lt, ℤ, unsigned_abs, Bool, not, ◌&&◌, List, length, map, filter, IsTrue}
use Rattle.std.specs.Prelude.{All}
use Rattle.std.specs.List.{range_with_len, flat_map}
use Rattle.pbd_num.specs.Vectors.{minus, squared_length}
use Rattle.pbd_world.specs.declared.parts.Particle.{Particle}
use Rattle.pbd_world.specs.declared.parts.Link.{Link}
use Rattle.pbd_world.specs.Particles.{particle_at}
use Rattle.pbd_world.specs.Colours.{joins, joined}

-- the pairs of i with each greater number below n
abbrev pub row : ℕ → ℕ → List (ℕ × ℕ)
row n i = map (λ j. (i, j)) (range_with_len (i + 1) (n - (i + 1)))

-- all pairs i < j below n, in order
abbrev pub all_pairs : ℕ → List (ℕ × ℕ)
all_pairs n = flat_map (row n) (range_with_len 0 n)

-- the pairs of particles that links join, and which of them are live
abbrev pub link_pairs : List Link → List (ℕ × ℕ)
link_pairs links = map {A = Link} {B = ℕ × ℕ} (λ l. (l.a, l.b)) links

abbrev pub live_flags : List Link → List Bool
live_flags links = map {A = Link} {B = Bool} (λ l. l.live) links

-- two places are less than the thickness apart
abbrev pub are_near : ℤ → Particle → Particle → Bool
are_near thickness p q = nat_lt (squared_length (minus p.at q.at)) (unsigned_abs thickness * unsigned_abs thickness)

-- two particles are near, not both held, and no live link joins them
abbrev pub is_contact : ℤ → List Link → List Particle → ℕ × ℕ → Bool
is_contact thickness links ps pair =
    are_near thickness (particle_at ps pair.0) (particle_at ps pair.1)
    && not ((particle_at ps pair.0).held && (particle_at ps pair.1).held)
    && not (joined (link_pairs links) (live_flags links) pair.0 pair.1)

-- the pairs of particles that touch each other, in order. With thickness 0 there are none
unfoldable pub contacts_of : ℤ → List Link → List Particle → List (ℕ × ℕ)
contacts_of thickness links ps = filter (is_contact thickness links ps) (all_pairs (length ps))

-- particles i and j touch each other: i before j, less than the thickness apart, not both held, and no live link joins them
pub record AreInContact (thickness : ℤ) (links : List Link) (ps : List Particle) (i j : ℕ) : Type 0 where
  pub ordered : i < j
  pub within : j < length ps
  pub near : squared_length (minus (particle_at ps i).at (particle_at ps j).at) < unsigned_abs thickness * unsigned_abs thickness
  pub free : ¬ (IsTrue (particle_at ps i).held × IsTrue (particle_at ps j).held)
  pub unlinked : All {X = Link} (λ l. ¬ (IsTrue l.live × IsTrue (joins (l.a, l.b) i j))) links

-- the order of pairs: by the first number, then by the second
abbrev pub IsBefore : ℕ × ℕ → ℕ × ℕ → Type 0
IsBefore p q = (p.0 < q.0) ⊎ ((p.0 ≡ q.0) × (p.1 < q.1))
