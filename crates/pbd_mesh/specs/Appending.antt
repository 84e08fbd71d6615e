-- Parts after which something stands, and what a broken growth leaves behind: the lists as they were, and perhaps more.
use Rattle.std.specs.Prelude.{◌≡◌, ◌++◌, List, length, take}
use Rattle.pbd_world.specs.declared.parts.Particle.{Particle}
use Rattle.pbd_world.specs.declared.parts.Link.{Link}
use Rattle.pbd_world.specs.declared.parts.Parts.{Parts}

-- parts with more particles and links after their own
abbrev pub with_more : Parts → List Particle → List Link → Parts
with_more parts ps ls = record parts { particles = parts.particles ++ ps; links = parts.links ++ ls }

pub record WithFront (old now : Parts) : Type 0 where
  pub particles : take (length old.particles) now.particles ≡ old.particles
  pub links : take (length old.links) now.links ≡ old.links
  pub others : now ≡ record old { particles = now.particles; links = now.links }
