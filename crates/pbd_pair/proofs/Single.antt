-- One bond: what its steps answer, put together.
use Rattle.std.proofs.Common.{◌≡◌, ℕ, ◌<◌, ℤ, pos, ◌≤ℤ◌, List, length, Bool, false, ◌&&◌, ap, sym, ◌∙◌, Ok, unsigned_abs}
use Rattle.std.proofs.lemmas.Bool.{cond-false}
use Rattle.pbd_num.specs.Vectors.{Within, is_within}
use Rattle.pbd_world.specs.declared.parts.Particle.{Particle}
use Rattle.pbd_world.specs.declared.bond.Bond.{Bond}
use Rattle.pbd_world.specs.declared.bond.End.{End}
use Rattle.pbd_world.specs.declared.bond.Shift.{Shift}
use Rattle.pbd_world.specs.declared.bond.Correction.{Correction}
use Rattle.pbd_world.specs.declared.bond.Correction.TheVariants.{Slack, Leaves, Moves}
use Rattle.pbd_world.specs.Ledger.{Ledger, booked}
use Rattle.pbd_world.specs.Particles.{Motion, particle_at, placed}
use Rattle.pbd_world.specs.Bonds.{corrected, correction_of, correction_at, end_of, entries_of, class_of, is_slack, shift_of}
use Rattle.pbd_world.specs.Bonds.{within_or_leaves}
use Rattle.pbd_pair.specs.Bonds.{IsEnd}
use Rattle.pbd_store.specs.Moving.{AreInside}

pub is_end : {l limit : ℤ} (ps : List Particle) (i : ℕ) (e : End) → l ≡ limit → e ≡ end_of (particle_at ps i) → pos 0 ≤ℤ e.weight
    → e.weight ≤ℤ pos 65535
    → i < length ps → AreInside limit ps → IsEnd l e
is_end {l} {limit} ps i e el ee low high h inside = record {
  at = coe 1 0 (j. Within (unsigned_abs (el j)) (ee j).at) (inside.each i h);
  low = low;
  high = high;
}

pub same_correction : {l limit : ℤ} {p q : End} (b : Bond) (ps : List Particle) {c : Correction} → c ≡ correction_of l p q b → l ≡ limit
    → p ≡ end_of (particle_at ps b.a) → q ≡ end_of (particle_at ps b.b) → c ≡ correction_at limit ps b
same_correction b ps ec el ep eq = ec ∙ (λ i. correction_of (el i) (ep i) (eq i) b)

pub moves_outcome : (n : ℕ) (b : Bond) (s : Shift) {c : Correction} (ps : List Particle) {ps1 ps2 : List Particle}
    (t : Ledger) {t2 : Ledger} {p_held q_held : Bool} → Moves s ≡ c → ps1 ≡ placed ps b.a s.first → ps2 ≡ placed ps1 b.b s.second
    → p_held ≡ (particle_at ps b.a).held → q_held ≡ (particle_at ps b.b).held
    → t2 ≡ booked t (entries_of p_held q_held (class_of b) s) → corrected n b c (record {
      particles = ps;
      totals = t;
    }) ≡ Ok (record { particles = ps2; totals = t2 })
moves_outcome n b s {c} ps {ps1} {ps2} t {t2} {p_held} {q_held} ec e1 e2 ep eq et =
    let m : Motion = record { particles = ps; totals = t } in
    let places : placed (placed ps b.a s.first) b.b s.second ≡ ps2 = ap (λ (x : List Particle). placed x b.b s.second) (sym e1) ∙ sym e2 in
    let totals : booked t (entries_of (particle_at ps b.a).held (particle_at ps b.b).held (class_of b) s) ≡ t2 =
    (λ i. booked t (entries_of (sym ep i) (sym eq i) (class_of b) s)) ∙ sym et in
    ap (λ (x : Correction). corrected n b x m) (sym ec) ∙ (λ i. Ok (record { particles = places i; totals = totals i }))

pub leaves_case : (limit : ℤ) (p q : End) (b : Bond) (s : Shift) → is_slack p q b ≡ false → s ≡ shift_of p q b
    → (is_within limit s.first && is_within limit s.second) ≡ false → Leaves ≡ correction_of limit p q b
unfolding correction_of
leaves_case limit p q b s tight es out =
    let way = λ (t : Shift). within_or_leaves limit t in
    sym (cond-false (is_slack p q b) Slack (way (shift_of p q b)) tight
    ∙ ap way (sym es)
    ∙ cond-false (is_within limit s.first && is_within limit s.second) (Moves s) Leaves out)
