-- What the particles and links of one mesh have in common.
use Rattle.std.specs.Prelude.{ℕ, ◌+◌, ◌*◌, ◌≤◌, nat_le, ℤ, Bool, not, ◌&&◌, IsTrue, List, length}
use Rattle.std.specs.List.{list_all}
use Rattle.pbd_world.specs.declared.parts.Particle.{Particle}
use Rattle.pbd_world.specs.declared.parts.Link.{Link}
use Rattle.pbd_world.specs.Valid.{is_valid_particle, is_valid_link, none_twice, join_alike, links_at}

abbrev pub is_free_and_valid : ℤ → Particle → Bool
is_free_and_valid limit p = not p.held && is_valid_particle limit p

-- a live and valid link between two particles from number `base` on and below `end`
abbrev pub is_mesh_link : ℤ → ℕ → ℕ → Link → Bool
is_mesh_link limit base end l = l.live && nat_le base l.a && nat_le base l.b && is_valid_link limit end l

-- free particles from number `base` on, and valid links between them: none twice, and few at each particle
pub record IsMesh (limit : ℤ) (base : ℕ) (ps : List Particle) (ls : List Link) : Type 0 where
  pub particles : IsTrue (list_all (is_free_and_valid limit) ps)
  pub links : IsTrue (list_all (is_mesh_link limit base (base + length ps)) ls)
  pub size : length ls ≤ 6 * length ps
  pub once : IsTrue (none_twice join_alike ls)
  pub few : (i : ℕ) → links_at ls i ≤ 24
