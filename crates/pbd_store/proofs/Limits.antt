-- Limits, and what is within them.
use Rattle.std.proofs.Common.{◌≡◌, refl, sym, ap, ◌∙◌, ◌≤◌, ◌^◌, ◌||◌, Bool, true, false, List, arith, ℤ, pos, ◌≤ℤ◌, unsigned_abs, IsTrue}
use Rattle.std.proofs.Common.{subst, w64, of_z, to_z}
use Rattle.std.specs.Ordering.{int_eq}
use Rattle.std.proofs.lemmas.Int.{ints, to_z-of_z}
use Rattle.std.proofs.lemmas.Bool.{and_parts}
use Rattle.std.proofs.lemmas.Bool.Decides.{Decides-int_eq}
use Rattle.std.proofs.lemmas.List.Sums.{AllPass-from_list_all}
use Rattle.pbd_num.proofs.Ranges.{within_facts}
use Rattle.pbd_num.proofs.Sizes.{fits}
use Rattle.pbd_world.specs.declared.parts.Particle.{Particle}
use Rattle.pbd_world.specs.Particles.{no_particle}
use Rattle.pbd_world.specs.Valid.{is_limit, is_valid_particle, are_valid_particles}
use Rattle.pbd_store.specs.Moving.{AreInside}
use Rattle.pbd_world.proofs.WholeLemmas.{limit_low, limit_high}

-- the same of a limit that was read from its bits
pub read_limit : (n : ℤ) → IsTrue (is_limit n) → (pos 0 ≤ℤ to_z w64 (of_z w64 n)) × (unsigned_abs (to_z w64 (of_z w64 n)) ≤ 2 ^ 29)
read_limit n h =
    let e = to_z-of_z w64 n (fits n (omega (arith, limit_high n h))) in (
      subst (λ (z : ℤ). pos 0 ≤ℤ z) (sym e) (limit_low n h),
      omega (arith, ap (λ (z : ℤ). unsigned_abs z) e, limit_high n h),
    )

-- what is within a limit is in the range of both
pub inside_both : (limit : ℤ) (ps : List Particle) → IsTrue (is_limit limit) → AreInside limit ps → AreInside (pos (2 ^ 29)) ps
inside_both limit ps l h =
    let size = limit_high limit l in
    record {
      each = λ i lt. (let w = h.each i lt in record {
        x = omega (arith, w.x, size);
        y = omega (arith, w.y, size);
        z = omega (arith, w.z, size);
      });
    }

-- the places of valid particles
pub valid_inside : (limit : ℤ) (ps : List Particle) → IsTrue (is_limit limit) → IsTrue (are_valid_particles limit ps) → AreInside limit ps
valid_inside limit ps l h = record {
  each = λ i lt. (within_facts limit _ (limit_low limit l)).0
      ((and_parts _ _ (and_parts _ _ (and_parts _ _ (AllPass-from_list_all (is_valid_particle limit) ps
      (and_parts _ _ h).1 i no_particle lt)).0).0).0);
}
