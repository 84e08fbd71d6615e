-- Which particles touch each other.
use Rattle.std.specs.Prelude.{ℕ, ◌<◌, ◌==◌, ℤ, unsigned_abs, not, ◌&&◌, if◌then◌else◌, Bool, List, length, map, filter}
use Rattle.pbd_world.specs.declared.parts.Particle.{Particle}
use Rattle.pbd_world.specs.Particles.{particle_at}
use Rattle.pbd_world.specs.Colours.{pair_at, joined}
use Rattle.pbd_world.specs.Contacts.{all_pairs, are_near}
use Rattle.pbd_colour.specs.Pairs.{Coloured}
use Rattle.pbd_grid.specs.Looks.{looks_for}

-- what contacts are seen as: how many particles there are, the pairs of them that touch each other, in how many chains they
-- are looked up, and how often the last search read these
pub record Found : Type 0 where
  pub particles : ℕ
  pub pairs : List (ℕ × ℕ)
  pub chains : ℕ
  pub looks : ℕ

-- two particles are near, not both held, and no live link joins them
abbrev pub touches : ℤ → Coloured → List Particle → ℕ × ℕ → Bool
touches thickness links ps pair =
    are_near thickness (particle_at ps pair.0) (particle_at ps pair.1)
    && not ((particle_at ps pair.0).held && (particle_at ps pair.1).held)
    && not (joined links.pairs links.live pair.0 pair.1)

-- the pairs of particles that touch each other, in order
unfoldable pub touching : ℤ → Coloured → List Particle → List (ℕ × ℕ)
touching thickness links ps = filter (touches thickness links ps) (all_pairs (length ps))

-- how often a search for them reads its chains, of so many: where the thickness is 0, nothing is searched
unfoldable pub looks_at : ℕ → ℤ → List Particle → ℕ
looks_at chains thickness ps = if unsigned_abs thickness == 0 then 0 else looks_for chains thickness (map (λ p. p.at) ps)

-- each pair names two of n particles, the lower number first
abbrev pub AreOrdered : ℕ → List (ℕ × ℕ) → Type 0
AreOrdered n pairs = (k : ℕ) → k < length pairs → ((pair_at pairs k).0 < (pair_at pairs k).1) × ((pair_at pairs k).1 < n)
