-- What a correction makes of two particles and of the ledger.
use Rattle.std.proofs.Common.{◌≡◌, ℕ, ◌<◌, ℤ, List, length, Bool, true, false, refl, ap, sym, ◌∙◌, arith, inl, inr, subst, unsigned_abs, Ok}
use Rattle.std.proofs.Common.{Err}
use Rattle.std.proofs.lemmas.Bool.{cases_eq}
use Rattle.pbd_num.specs.declared.Vec3.{Vec3}
use Rattle.pbd_num.specs.Vectors.{Within}
use Rattle.pbd_world.specs.declared.parts.Particle.{Particle}
use Rattle.pbd_world.specs.declared.bond.Bond.{Bond}
use Rattle.pbd_world.specs.declared.bond.Correction.{Correction}
use Rattle.pbd_world.specs.declared.bond.Correction.TheVariants.{Slack, Leaves, Moves}
use Rattle.pbd_world.specs.Ledger.{Ledger, booked}
use Rattle.pbd_world.specs.Particles.{Motion, particle_at, placed}
use Rattle.pbd_world.specs.Bonds.{corrected, entries_of, class_of}
use Rattle.pbd_store.proofs.Scattering.{placed_same, placed_other, length-placed}
use Rattle.pbd_pair.specs.Bonds.{IsSound}
use Rattle.pbd_store.specs.Moving.{fixed_parts, AreInside}
use Rattle.pbd_store.proofs.Parting.{placed_fixed}

abbrev pub leaves_by : Correction → Bool
leaves_by Slack = false
leaves_by Leaves = true
leaves_by (Moves s) = false

abbrev pub placed_by : List Particle → Bond → Correction → List Particle
placed_by ps b Slack = ps
placed_by ps b Leaves = ps
placed_by ps b (Moves s) = placed (placed ps b.a s.first) b.b s.second

abbrev pub booked_by : Bool → Bool → Bond → Correction → Ledger → Ledger
booked_by p q b Slack t = t
booked_by p q b Leaves t = t
booked_by p q b (Moves s) t = booked t (entries_of p q (class_of b) s)

pub corrected_stays : (n : ℕ) (b : Bond) (c : Correction) (m : Motion) → leaves_by c ≡ false → corrected n b c m ≡ Ok
    (record {
      particles = placed_by m.particles b c;
      totals =
          booked_by (particle_at m.particles b.a).held (particle_at m.particles b.b).held b c m.totals;
    })
corrected_stays n b Slack m e = refl
corrected_stays n b Leaves m e = cc
corrected_stays n b (Moves s) m e = refl

pub corrected_leaves : (n : ℕ) (b : Bond) (c : Correction) (m : Motion) → leaves_by c ≡ true → corrected n b c m ≡ Err n
corrected_leaves n b Slack m e = cc
corrected_leaves n b Leaves m e = refl
corrected_leaves n b (Moves s) m e = cc

-- ---- places within the limit, and the other parts

pub inside-placed : (limit : ℤ) (ps : List Particle) (i : ℕ) (v : Vec3) → i < length ps → AreInside limit ps → Within (unsigned_abs limit) v
    → AreInside limit (placed ps i v)
inside-placed limit ps i v within h w = record {
  each = λ k p. elim (cases_eq k i) [
    | inl e ↦ (let is : (particle_at (placed ps i v) k).at ≡ v = ap (λ m. (particle_at (placed ps i v) m).at) e
        ∙ ap (λ (q : Particle). q.at)
        (placed_same ps i v within) in
        subst (λ x. Within (unsigned_abs limit) x) (sym is) w)
    | inr n ↦ subst (λ (x : Particle). Within (unsigned_abs limit) x.at) (sym (placed_other ps i k v n))
        (h.each k (omega (arith, length-placed ps i v)))
  ];
}

pub inside-placed_by : (limit : ℤ) (ps : List Particle) (b : Bond) (c : Correction) → b.a < length ps → b.b < length ps → IsSound limit c
    → AreInside limit ps → AreInside limit (placed_by ps b c)
inside-placed_by limit ps b Slack h k s i = i
inside-placed_by limit ps b Leaves h k s i = i
inside-placed_by limit ps b (Moves t) h k s i = inside-placed limit (placed ps b.a t.first) b.b t.second
    (omega (arith, length-placed ps b.a t.first))
    (inside-placed limit ps b.a t.first h i s.first) s.second

pub fixed-placed_by : (ps : List Particle) (b : Bond) (c : Correction) → fixed_parts (placed_by ps b c) ≡ fixed_parts ps
fixed-placed_by ps b Slack = refl
fixed-placed_by ps b Leaves = refl
fixed-placed_by ps b (Moves t) = placed_fixed (placed ps b.a t.first) b.b t.second ∙ placed_fixed ps b.a t.first
