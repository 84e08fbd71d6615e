-- What a world still has of its scene.
use Rattle.std.specs.Prelude.{◌≡◌, map}
use Rattle.pbd_world.specs.declared.parts.Particle.{Particle}
use Rattle.pbd_world.specs.declared.parts.Link.{Link}
use Rattle.pbd_world.specs.declared.parts.Parts.{Parts}
use Rattle.pbd_world.specs.Shapes.{shapes_in}
use Rattle.pbd_world.specs.World.{World}

-- all but what commands and steps may change: places, holds, which links are live, gravity, counts and the ledger
pub record HasPartsOf (parts : Parts) (w : World) : Type 0 where
  pub limit : w.limit ≡ parts.limit
  pub tracks : w.tracks ≡ parts.tracks
  pub shapes : w.shapes ≡ shapes_in parts
  pub passes : w.passes ≡ parts.passes
  pub damping : w.damping ≡ parts.damping
  pub thickness : w.thickness ≡ parts.thickness
  pub friction : w.friction ≡ parts.friction
  pub weights : map {A = Particle} (λ p. p.weight) w.particles ≡ map {A = Particle} (λ p. p.weight) parts.particles
  pub first_ends : map {A = Link} (λ l. l.a) w.links ≡ map {A = Link} (λ l. l.a) parts.links
  pub second_ends : map {A = Link} (λ l. l.b) w.links ≡ map {A = Link} (λ l. l.b) parts.links
  pub rests : map {A = Link} (λ l. l.rest) w.links ≡ map {A = Link} (λ l. l.rest) parts.links
  pub stiffnesses : map {A = Link} (λ l. l.k) w.links ≡ map {A = Link} (λ l. l.k) parts.links
  pub tears : map {A = Link} (λ l. l.tear) w.links ≡ map {A = Link} (λ l. l.tear) parts.links
  pub kinds : map {A = Link} (λ l. l.kind) w.links ≡ map {A = Link} (λ l. l.kind) parts.links
