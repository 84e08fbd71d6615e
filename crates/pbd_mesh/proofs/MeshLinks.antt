-- The links of a mesh are valid ones between its own particles, and live.
use Rattle.std.proofs.Common.{◌≡◌, ℕ, ◌+◌, ◌≤◌, true, ◌&&◌, List, length, arith, All, ℤ}
use Rattle.std.specs.Prelude.{IsTrue, nat_le}
use Rattle.std.specs.List.{list_all}
use Rattle.std.proofs.lemmas.Bool.{and_parts, leb-true}
use Rattle.pbd_world.specs.declared.parts.Particle.{Particle}
use Rattle.pbd_world.specs.declared.parts.Link.{Link}
use Rattle.pbd_world.specs.Valid.{is_valid_link, ValidLink, ValidLinks}
use Rattle.pbd_world.proofs.Every.{every_more, every_test, every_from_test, all_from_every}
use Rattle.pbd_world.proofs.ValidLinks.{link_facts, IsFrom}
use Rattle.pbd_mesh.specs.Meshes.{is_mesh_link, IsMesh}

record MeshLink (limit : ℤ) (base end : ℕ) (l : Link) : Type 0 where
  pub live : IsTrue l.live
  pub from : IsFrom base l
  pub valid : ValidLink limit end l

mesh_link : (limit : ℤ) (base end : ℕ) (l : Link) → IsTrue (is_mesh_link limit base end l) → MeshLink limit base end l
mesh_link limit base end l t =
    let p2 = and_parts (l.live && nat_le base l.a && nat_le base l.b) (is_valid_link limit end l) t in
    let p1 = and_parts (l.live && nat_le base l.a) (nat_le base l.b) p2.0 in
    let p0 = and_parts l.live (nat_le base l.a) p1.0 in
    record {
      live = p0.0;
      from = record { first = leb-true base l.a p0.1; second = leb-true base l.b p1.1 };
      valid = (link_facts limit end l).0 p2.1;
    }

pub links_valid : (limit : ℤ) (base : ℕ) (ps : List Particle) (ls : List Link) → length ls ≤ 524288 → IsMesh limit base ps ls
    → ValidLinks limit (base + length ps) ls
links_valid limit base ps ls number mesh =
    let end = base + length ps in
    record {
      number = number;
      each = all_from_every (ValidLink limit end) ls (every_more (λ l. IsTrue (is_mesh_link limit base end l)) (ValidLink limit end) ls
          (λ l t. (mesh_link limit base end l t).valid) (every_from_test (is_mesh_link limit base end) ls mesh.links));
      once = mesh.once;
      few = λ i within. omega (arith, mesh.few i);
    }

pub links_from : (limit : ℤ) (base : ℕ) (ps : List Particle) (ls : List Link) → IsMesh limit base ps ls → All (IsFrom base) ls
links_from limit base ps ls mesh =
    let end = base + length ps in
    all_from_every (IsFrom base) ls (every_more (λ l. IsTrue (is_mesh_link limit base end l)) (IsFrom base) ls
    (λ l t. (mesh_link limit base end l t).from) (every_from_test (is_mesh_link limit base end) ls mesh.links))

pub links_live : (limit : ℤ) (base : ℕ) (ps : List Particle) (ls : List Link) → IsMesh limit base ps ls
    → list_all {X = Link} (λ l. l.live) ls ≡ true
links_live limit base ps ls mesh =
    let end = base + length ps in
    every_test {A = Link} (λ l. l.live) ls (every_more (λ l. IsTrue (is_mesh_link limit base end l)) (λ l. IsTrue l.live) ls
    (λ l t. (mesh_link limit base end l t).live) (every_from_test (is_mesh_link limit base end) ls mesh.links))
