-- Velocities added up particle by particle, and sums that fit.
use Rattle.std.proofs.Common.{◌≡◌, refl, sym, ap, ◌∙◌, ℕ, ◌+◌, ◌<◌, ◌≤◌, ◌^◌, Bool, true, false, cond, List, ◌∷◌, length, drop, map, arith}
use Rattle.std.proofs.Common.{ℤ, unsigned_abs, FitsSigned}
use Rattle.std.specs.Prelude.{filter, fold}
use Rattle.std.specs.Int.{w128}
use Rattle.std.proofs.lemmas.Int.{fits_signed_from_abs}
use Rattle.std.proofs.lemmas.List.{at_drop_more, at_drop_all}
use Rattle.pbd_num.proofs.Sizes.{size-add}
use Rattle.pbd_world.specs.declared.parts.Particle.{Particle}
use Rattle.pbd_world.specs.Ledger.{Sum, Ledger, sum_plus, both_sums, SumWithin, SumFits, HaveRoom}
use Rattle.pbd_world.specs.Particles.{velocity, is_free, particle_at, no_particle}
use Rattle.pbd_ledger.specs.Fitting.{SumsFit}

-- the momentum of particles on top of a sum
abbrev pub momentum_from : Sum → List Particle → Sum
momentum_from s ps = fold sum_plus s (map velocity (filter is_free ps))

-- a sum with the part of one more particle
abbrev pub with_part : Sum → Particle → Sum
with_part s p = cond (is_free p) (sum_plus s (velocity p)) s

from_cons : (s : Sum) (p : Particle) (ps : List Particle) → momentum_from (with_part s p) ps ≡ momentum_from s (p ∷ ps)
from_cons s p ps = summed_if_free (is_free p)
  where
    summed_if_free : (b : Bool) → momentum_from (cond b (sum_plus s (velocity p)) s) ps
        ≡ fold sum_plus s (map velocity (cond b (p ∷ filter is_free ps) (filter is_free ps)))
    summed_if_free true = refl
    summed_if_free false = refl

pub part_more : (ps : List Particle) (i : ℕ) (s t : Sum) → i < length ps → t ≡ with_part s (particle_at ps i)
    → momentum_from t (drop (i + 1) ps) ≡ momentum_from s (drop i ps)
part_more ps i s t h e = ap (λ (u : Sum). momentum_from u (drop (i + 1) ps)) e ∙ from_cons s (particle_at ps i) (drop (i + 1) ps)
    ∙ sym (at_drop_more (momentum_from s) ps i no_particle h)

pub part_all : (ps : List Particle) (i : ℕ) (s : Sum) → length ps ≤ i → momentum_from s (drop i ps) ≡ s
part_all ps i s h = at_drop_all (momentum_from s) ps i h

pub sum_within : {n : ℕ} {s : Sum} (m : ℕ) → n ≤ m → SumWithin n s → SumWithin m s
sum_within m p h = record { x = omega (arith, h.x); y = omega (arith, h.y); z = omega (arith, h.z) }

-- ---- sums that fit

pub wide : (z : ℤ) → unsigned_abs z < 2 ^ 127 → FitsSigned w128 z
wide z h = fits_signed_from_abs w128 z h

pub both_within : (m n : ℕ) (s t : Sum) → SumWithin m s → SumWithin n t → SumWithin (m + n) (both_sums s t)
both_within m n s t h k = record {
  x = omega (arith, size-add s.x t.x, h.x, k.x);
  y = omega (arith, size-add s.y t.y, h.y, k.y);
  z = omega (arith, size-add s.z t.z, h.z, k.z);
}

within_fits : (n : ℕ) (s : Sum) → n < 2 ^ 127 → SumWithin n s → SumFits s
within_fits n s p h = record { x = wide s.x (omega (arith, h.x)); y = wide s.y (omega (arith, h.y)); z = wide s.z (omega (arith, h.z)) }

pub room_fits : (opening : Sum) (t : Ledger) → SumWithin (2 ^ 120) opening → HaveRoom (2 ^ 120) t → SumsFit opening t
room_fits opening t h room =
    let b = 2 ^ 120 in
    let pin = both_within b b t.pin t.shape room.pin room.shape in
    let contact = both_within b (b + b) t.contact _ room.contact pin in
    let link = both_within b (b + (b + b)) t.link _ room.link contact in
    let damping = both_within b (b + (b + (b + b))) t.damping _ room.damping link in
    let gravity = both_within b (b + (b + (b + (b + b)))) t.gravity _ room.gravity damping in
    let all = both_within b (b + (b + (b + (b + (b + b))))) opening _ h gravity in
    record {
      from_pin = within_fits _ _ (omega arith) pin;
      from_contact = within_fits _ _ (omega arith) contact;
      from_link = within_fits _ _ (omega arith) link;
      from_damping = within_fits _ _ (omega arith) damping;
      totals = within_fits _ _ (omega arith) gravity;
      all = within_fits _ _ (omega arith) all;
    }
