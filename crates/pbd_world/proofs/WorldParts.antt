-- A sound world, part by part.
use Rattle.std.proofs.Common.{refl, ◌≤◌, ◌&&◌, List, [], ◌∷◌, length, arith, ℤ, pos, ◌≤ℤ◌, unsigned_abs}
use Rattle.std.specs.Prelude.{IsTrue, nat_le}
use Rattle.std.specs.List.{AllByRecursion, list_all}
use Rattle.std.proofs.lemmas.Int.{ints}
use Rattle.std.proofs.lemmas.Bool.{and_parts, and_from, leb-true}
use Rattle.std.proofs.lemmas.Bool.Decides.{nat_tests}
use Rattle.pbd_num.specs.Vectors.{is_within}
use Rattle.pbd_num.proofs.Sizes.{size_at_most}
use Rattle.pbd_world.specs.declared.parts.Particle.{Particle}
use Rattle.pbd_world.specs.declared.parts.Parts.{Parts}
use Rattle.pbd_world.specs.Valid.{is_between, is_limit, is_valid_particle, are_valid_particles, are_valid_links}
use Rattle.pbd_world.specs.Valid.{are_valid_tracks, are_valid_numbers, is_well_formed}
use Rattle.pbd_world.specs.Shapes.{shapes_in, are_valid_shapes}
use Rattle.pbd_world.specs.World.{World, parts_of}
use Rattle.pbd_world.proofs.WholeLemmas.{limit_low, limit_high}
use Rattle.pbd_world.proofs.KeptLemmas.{IsLimit}

-- the parts of what is well formed
pub record Formed (parts : Parts) : Type 0 where
  pub limit : IsTrue (is_limit parts.limit)
  pub particles : IsTrue (are_valid_particles parts.limit parts.particles)
  pub links : IsTrue (are_valid_links parts.limit (length parts.particles) parts.links)
  pub shapes : IsTrue (are_valid_shapes parts.limit (shapes_in parts))
  pub tracks : IsTrue (are_valid_tracks parts.limit (length parts.particles) parts.tracks)
  pub gravity : IsTrue (is_within parts.limit parts.gravity)
  pub numbers : IsTrue (are_valid_numbers parts)

pub formed : (parts : Parts) → IsTrue (is_well_formed parts) → Formed parts
unfolding is_well_formed
formed parts h =
    let p6 = and_parts _ _ h in let p5 = and_parts _ _ p6.0 in let p4 = and_parts _ _ p5.0 in
    let p3 = and_parts _ _ p4.0 in let p2 = and_parts _ _ p3.0 in let p1 = and_parts _ _ p2.0 in
    record { limit = p1.0; particles = p1.1; links = p2.1; shapes = p3.1; tracks = p4.1; gravity = p5.1; numbers = p6.1 }

pub from_formed : (parts : Parts) → Formed parts → IsTrue (is_well_formed parts)
unfolding is_well_formed
from_formed parts f = and_from _ _ (and_from _ _
    (and_from _ _ (and_from _ _ (and_from _ _ (and_from _ _ f.limit f.particles) f.links) f.shapes) f.tracks) f.gravity)
    f.numbers

between_low : (high n : ℤ) → IsTrue (is_between (pos 0) high n) → pos 0 ≤ℤ n
between_low high n h = grind (arith, ints, nat_tests)

between_high : (high n : ℤ) → IsTrue (is_between (pos 0) high n) → n ≤ℤ high
between_high high n h = grind (arith, ints, nat_tests)

-- the numbers of a sound world
pub record Numbers (w : World) : Type 0 where
  pub passes : w.passes ≤ 64
  pub damping_low : pos 0 ≤ℤ w.damping
  pub damping_high : unsigned_abs w.damping ≤ 1024
  pub friction_low : pos 0 ≤ℤ w.friction
  pub friction_high : unsigned_abs w.friction ≤ 256

pub numbers_of : (w : World) → Formed (parts_of w) → Numbers w
numbers_of w f =
    let p3 = and_parts (nat_le w.passes 64 && is_between (pos 0) (pos 1024) w.damping && is_between (pos 0) (pos 1048576) w.thickness)
    (is_between (pos 0) (pos 256) w.friction) f.numbers in
    let p2 = and_parts (nat_le w.passes 64 && is_between (pos 0) (pos 1024) w.damping)
    (is_between (pos 0) (pos 1048576) w.thickness) p3.0 in
    let p1 = and_parts (nat_le w.passes 64) (is_between (pos 0) (pos 1024) w.damping) p2.0 in
    record {
      passes = leb-true w.passes 64 p1.0;
      damping_low = between_low (pos 1024) w.damping p1.1;
      damping_high = size_at_most w.damping 1024 (between_low (pos 1024) w.damping p1.1) (between_high (pos 1024) w.damping p1.1);
      friction_low = between_low (pos 256) w.friction p3.1;
      friction_high = size_at_most w.friction 256 (between_low (pos 256) w.friction p3.1) (between_high (pos 256) w.friction p3.1);
    }

pub limit_of : (w : World) → Formed (parts_of w) → IsLimit w.limit
limit_of w f = record { low = limit_low w.limit f.limit; high = limit_high w.limit f.limit }

-- a valid particle
pub record IsFit (limit : ℤ) (p : Particle) : Type 0 where
  pub at : IsTrue (is_within limit p.at)
  pub before : IsTrue (is_within limit p.before)
  pub low : IsTrue (nat_le 1 p.weight)
  pub high : IsTrue (nat_le p.weight 65535)

fit_from : (limit : ℤ) (p : Particle) → IsTrue (is_valid_particle limit p) → IsFit limit p
fit_from limit p h =
    let p3 = and_parts (is_within limit p.at && is_within limit p.before && nat_le 1 p.weight) (nat_le p.weight 65535) h in
    let p2 = and_parts (is_within limit p.at && is_within limit p.before) (nat_le 1 p.weight) p3.0 in
    let p1 = and_parts (is_within limit p.at) (is_within limit p.before) p2.0 in
    record { at = p1.0; before = p1.1; low = p2.1; high = p3.1 }

pub fit_is : (limit : ℤ) (p : Particle) → IsFit limit p → IsTrue (is_valid_particle limit p)
fit_is limit p f = and_from _ _ (and_from _ _ (and_from _ _ f.at f.before) f.low) f.high

pub all_fit : (limit : ℤ) (ps : List Particle) → IsTrue (list_all (is_valid_particle limit) ps) → AllByRecursion (IsFit limit) ps
all_fit limit [] h = tt
all_fit limit (p ∷ ps) h = let parts = and_parts (is_valid_particle limit p) (list_all (is_valid_particle limit) ps) h in
    (fit_from limit p parts.0, all_fit limit ps parts.1)

pub are_fit : (limit : ℤ) (ps : List Particle) → AllByRecursion (IsFit limit) ps → IsTrue (list_all (is_valid_particle limit) ps)
are_fit limit [] h = refl
are_fit limit (p ∷ ps) h = and_from _ _ (fit_is limit p h.0) (are_fit limit ps h.1)
