-- Worlds, which of them are sound, and which are of one scene.
use Rattle.std.specs.Prelude.{◌≡◌, ℕ, ◌≤◌, ◌*◌, ◌^◌, ◌==◌, ℤ, pos, Bool, false, not, ◌||◌, IsTrue, List, [], length, filter, map, All}
use Rattle.std.specs.List.{list_all, list_any, enumerate_from}
use Rattle.pbd_num.specs.declared.Vec3.{Vec3}
use Rattle.pbd_num.specs.Vectors.{zero_vector}
use Rattle.pbd_world.specs.declared.parts.Particle.{Particle}
use Rattle.pbd_world.specs.declared.parts.Link.{Link}
use Rattle.pbd_world.specs.declared.parts.ShapeLists.{ShapeLists}
use Rattle.pbd_world.specs.declared.parts.Track.{Track}
use Rattle.pbd_world.specs.declared.parts.Parts.{Parts}
use Rattle.pbd_world.specs.Ledger.{Sum, Ledger, zero_sum, zero_totals, SumWithin}
use Rattle.pbd_world.specs.Momentum.{momentum, IsBalanced}
use Rattle.pbd_world.specs.Shapes.{shapes_in}
use Rattle.pbd_world.specs.Valid.{is_well_formed, is_at_rest, are_tracked_held}

-- all that a command can see or change
pub record World : Type 0 where
  pub limit : ℤ
  pub steps : ℕ
  pub particles : List Particle
  pub links : List Link
  pub tracks : List Track
  pub shapes : ShapeLists
  pub gravity : Vec3
  pub passes : ℕ
  pub damping : ℤ
  pub thickness : ℤ
  pub friction : ℤ
  pub contacts : ℕ
  pub totals : Ledger
  pub opening : Sum

-- the world of a scene before its first command
abbrev pub opened : Parts → World
opened parts = record {
  limit = parts.limit;
  steps = 0;
  particles = parts.particles;
  links = parts.links;
  tracks = parts.tracks;
  shapes = shapes_in parts;
  gravity = parts.gravity;
  passes = parts.passes;
  damping = parts.damping;
  thickness = parts.thickness;
  friction = parts.friction;
  contacts = 0;
  totals = zero_totals;
  opening = momentum parts.particles;
}

-- the parts of a world as they are now
abbrev pub parts_of : World → Parts
parts_of w = record {
  particles = w.particles;
  links = w.links;
  planes = w.shapes.planes;
  spheres = w.shapes.spheres;
  tracks = w.tracks;
  gravity = w.gravity;
  passes = w.passes;
  damping = w.damping;
  thickness = w.thickness;
  friction = w.friction;
  limit = w.limit;
}

-- no parts yet: one pass of nothing, without gravity, damping, thickness and friction
abbrev pub no_parts : ℤ → Parts
no_parts limit = record {
  particles = [];
  links = [];
  planes = [];
  spheres = [];
  tracks = [];
  gravity = zero_vector;
  passes = 1;
  damping = pos 0;
  thickness = pos 0;
  friction = pos 0;
  limit = limit;
}

-- how many links are live
abbrev pub live_count : List Link → ℕ
live_count links = length (filter {X = Link} (λ l. l.live) links)

-- some track names particle i
abbrev pub is_tracked : List Track → ℕ → Bool
is_tracked tracks i = list_any (λ t. t.particle == i) tracks

-- each held particle that no track names is at rest
abbrev pub are_held_at_rest : List Track → List Particle → Bool
are_held_at_rest tracks ps =
    list_all {X = ℕ × Particle} (λ n. not n.1.held || is_tracked tracks n.0 || is_at_rest n.1) (enumerate_from 0 ps)

-- all particles have this weight
abbrev pub HaveWeight : ℕ → List Particle → Type 0
HaveWeight weight ps = All (λ p. p.weight ≡ weight) ps

-- the five totals that steps alone change are at most `bound` in size
pub record AreBounded (bound : ℕ) (t : Ledger) : Type 0 where
  pub gravity : SumWithin bound t.gravity
  pub damping : SumWithin bound t.damping
  pub link : SumWithin bound t.link
  pub contact : SumWithin bound t.contact
  pub shape : SumWithin bound t.shape

-- what holds of a world between two commands
pub record IsSound (w : World) : Type 0 where
  pub well_formed : IsTrue (is_well_formed (parts_of w))
  pub tracked : IsTrue (are_tracked_held w.tracks w.particles)
  pub at_rest : IsTrue (are_held_at_rest w.tracks w.particles)
  pub steps : w.steps ≤ 1000000
  pub contacts : w.contacts ≤ 262144
  pub bounded : AreBounded (2 ^ 64 * w.steps) w.totals
  pub opening : SumWithin (2 ^ 46) w.opening
  pub balanced : IsBalanced w.opening w.totals w.particles
  pub undamped : w.damping ≡ pos 0 → w.totals.damping ≡ zero_sum
  pub one_weight : (weight : ℕ) → HaveWeight weight w.particles → (w.totals.link ≡ zero_sum) × (w.totals.contact ≡ zero_sum)

-- what no command changes of a world
abbrev pub unchanging : World → World
unchanging w = record w {
  steps = 0;
  contacts = 0;
  totals = zero_totals;
  gravity = zero_vector;
  particles = map {A = Particle} {B = Particle} (λ p. record p { at = zero_vector; before = zero_vector; held = false }) w.particles;
  links = map {A = Link} {B = Link} (λ l. record l { live = false }) w.links;
}

-- two worlds agree in all that no command changes
abbrev pub AreOfOneScene : World → World → Type 0
AreOfOneScene v w = unchanging v ≡ unchanging w
