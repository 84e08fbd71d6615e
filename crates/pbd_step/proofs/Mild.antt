-- What a world in a step gives to its parts: both places of each particle are within the limit, and the numbers are small.
use Rattle.std.proofs.Common.{ℕ, ◌<◌, ◌≤◌, ◌^◌, ◌&&◌, length, pos, unsigned_abs}
use Rattle.std.specs.Prelude.{IsTrue, nat_le}
use Rattle.std.specs.List.{list_all}
use Rattle.std.proofs.lemmas.Bool.{and_parts}
use Rattle.pbd_num.specs.Vectors.{Within}
use Rattle.pbd_num.proofs.Ranges.{within_facts, wider}
use Rattle.pbd_world.specs.Particles.{particle_at}
use Rattle.pbd_world.specs.Valid.{is_between, is_valid_particle, is_well_formed}
use Rattle.pbd_world.specs.World.{World, parts_of, IsSound}
use Rattle.pbd_world.proofs.OtherParticle.{fit_at}
use Rattle.pbd_world.proofs.WorldParts.{formed, limit_of, numbers_of, all_fit}
use Rattle.pbd_shape.specs.Rubbing.{AreWithin}

pub formed_within : (w : World) → IsTrue (is_well_formed (parts_of w)) → AreWithin w.limit w.particles
formed_within w h =
    let form = formed (parts_of w) h in
    let lim = limit_of w form in
    let fits = all_fit w.limit w.particles (and_parts (nat_le (length w.particles) 65536)
    (list_all (is_valid_particle w.limit) w.particles) form.particles).1 in
    record {
      at = λ i lt. (within_facts w.limit (particle_at w.particles i).at lim.low).0 (fit_at w.limit w.particles i fits lt).at;
      before = λ i lt. (within_facts w.limit (particle_at w.particles i).before lim.low).0 (fit_at w.limit w.particles i fits lt).before;
    }

pub formed_friction : (w : World) → IsTrue (is_well_formed (parts_of w)) → IsTrue (is_between (pos 0) (pos 256) w.friction)
formed_friction w h = (and_parts (nat_le w.passes 64 && is_between (pos 0) (pos 1024) w.damping
    && is_between (pos 0) (pos 1048576) w.thickness) (is_between (pos 0) (pos 256) w.friction) (formed (parts_of w) h).numbers).1

-- both places of each particle, damping and gravity are in the range of the greater limit
pub record IsMild (w : World) : Type 0 where
  pub at : (i : ℕ) → i < length w.particles → Within (2 ^ 29) (particle_at w.particles i).at
  pub before : (i : ℕ) → i < length w.particles → Within (2 ^ 29) (particle_at w.particles i).before
  pub damping : unsigned_abs w.damping ≤ 1024
  pub gravity : Within (2 ^ 29) w.gravity

pub sound_mild : (w : World) → IsSound w → IsMild w
sound_mild w sound =
    let form = formed (parts_of w) sound.well_formed in
    let lim = limit_of w form in
    let inside = formed_within w sound.well_formed in
    let l = unsigned_abs w.limit in
    record {
      at = λ i lt. wider (particle_at w.particles i).at l (2 ^ 29) lim.high (inside.at i lt);
      before = λ i lt. wider (particle_at w.particles i).before l (2 ^ 29) lim.high (inside.before i lt);
      damping = (numbers_of w form).damping_high;
      gravity = wider w.gravity l (2 ^ 29) lim.high ((within_facts w.limit w.gravity lim.low).0 form.gravity);
    }
