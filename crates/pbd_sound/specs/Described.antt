-- All that commands change of a world, told item by item.
use Rattle.std.specs.Prelude.{ℕ, Bool, List, map}
use Rattle.std.specs.List.{enumerate_from}
use Rattle.pbd_num.specs.declared.Vec3.{Vec3}
use Rattle.pbd_world.specs.declared.parts.Particle.{Particle}
use Rattle.pbd_world.specs.declared.parts.Link.{Link}
use Rattle.pbd_world.specs.Ledger.{Ledger}
use Rattle.pbd_world.specs.World.{World}

-- what is told of a world with so many particles and links
pub record Description : Type 0 where
  pub particles : ℕ
  pub links : ℕ
  pub steps : ℕ
  pub gravity : Vec3
  pub at : ℕ → Vec3
  pub before : ℕ → Vec3
  pub held : ℕ → Bool
  pub live : ℕ → Bool
  pub contacts : ℕ
  pub totals : Ledger

-- particle i as it is told, with the weight that it has
abbrev pub particle_told : Description → ℕ → Particle → Particle
particle_told d i p = record p { at = d.at i; before = d.before i; held = d.held i }

-- link l as it is told
abbrev pub link_told : Description → ℕ → Link → Link
link_told d l link = record link { live = d.live l }

abbrev pub particles_told : Description → List Particle → List Particle
particles_told d ps = map {A = ℕ × Particle} {B = Particle} (λ n. particle_told d n.0 n.1) (enumerate_from 0 ps)

abbrev pub links_told : Description → List Link → List Link
links_told d ls = map {A = ℕ × Link} {B = Link} (λ n. link_told d n.0 n.1) (enumerate_from 0 ls)

-- the world of a scene that is told: what no command changes is the scene's
abbrev pub told : Description → World → World
told d w = record w {
  steps = d.steps;
  gravity = d.gravity;
  particles = particles_told d w.particles;
  links = links_told d w.links;
  contacts = d.contacts;
  totals = d.totals;
}
