-- Friction, which follows the passes of a step.
use Rattle.std.specs.Prelude.{◌≡◌, ℕ, ◌*◌, ◌^◌, ◌<◌, ◌≤◌, ℤ, pos, int_lt, unsigned_abs, List, ◌++◌, length, map, zip, fold, take, drop}
use Rattle.std.specs.Prelude.{Bool, ◌&&◌, IsTrue, if◌then◌else◌}
use Rattle.std.specs.List.{list_any}
use Rattle.pbd_num.specs.Vectors.{Within, zero_vector}
use Rattle.pbd_world.specs.declared.parts.Particle.{Particle}
use Rattle.pbd_world.specs.Ledger.{Ledger, booked, HaveRoom}
use Rattle.pbd_world.specs.Particles.{Motion, Moved, particle_at}
use Rattle.pbd_world.specs.Shapes.{rubbed}
use Rattle.pbd_world.specs.Step.{Passing}
use Rattle.pbd_world.specs.Valid.{is_between}
use Rattle.pbd_store.specs.Blocks.{blocks_of}

-- every place and every place before is within the limit
pub record AreWithin (limit : ℤ) (ps : List Particle) : Type 0 where
  pub at : (i : ℕ) → i < length ps → Within (unsigned_abs limit) (particle_at ps i).at
  pub before : (i : ℕ) → i < length ps → Within (unsigned_abs limit) (particle_at ps i).before

-- all but the places before
abbrev pub settled_parts : List Particle → List Particle
settled_parts ps = map {A = Particle} {B = Particle} (λ p. record p { before = zero_vector }) ps

-- how often friction reaches a store at most: twice for each block, where there is friction and a particle is touched
abbrev pub rub_cost : ℤ → List Bool → ℕ → ℕ
rub_cost friction touched blocks = if int_lt (pos 0) friction && list_any (λ t. t) touched then 2 * blocks else 0

-- the particles from n on are rubbed, while those before n stay as they are
unfoldable pub rubbed_from : ℤ → ℕ → Passing → Motion
rubbed_from friction n s =
    let ms = map {A = Particle × Bool} {B = Moved}
    (λ pair. rubbed friction pair.0 pair.1) (zip (drop n s.motion.particles) (drop n s.touched)) in
    record {
      particles = take n s.motion.particles ++ map {A = Moved} {B = Particle} (λ m. m.particle) ms;
      totals = fold {A = Moved} {B = Ledger} (λ u m. booked u m.entries) s.motion.totals ms;
    }

-- what has to hold so that the particles of a block of so many lanes can be rubbed
pub record CanRub (width number : ℕ) (friction limit : ℤ) (particles : List Particle) (touched : List Bool) (totals : Ledger) : Type 0 where
  pub lanes_low : 0 < width
  pub lanes_high : width ≤ 16
  pub block : number < blocks_of (length particles) width
  pub valid_friction : IsTrue (is_between (pos 0) (pos 256) friction)
  pub flags : length touched ≡ length particles
  pub within : AreWithin limit particles
  pub room : HaveRoom (2 ^ 125) totals
