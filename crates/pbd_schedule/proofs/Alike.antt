-- All legal events of one batch come to the same.
use Rattle.std.proofs.Common.{◌≡◌, ℕ, ◌<◌, ℤ, List, length, replicate, sym, ◌∙◌, ap, arith, subst}
use Rattle.std.proofs.lemmas.List.{ext_get_or}
use Rattle.pbd_world.specs.declared.parts.Particle.{Particle}
use Rattle.pbd_world.specs.declared.bond.Bond.{Bond}
use Rattle.pbd_world.specs.Ledger.{Ledger}
use Rattle.pbd_world.specs.Particles.{Motion}
use Rattle.pbd_pair.specs.declared.bonds.Bonds.{Bonds}
use Rattle.pbd_pair.specs.Bonds.{bond_of, IsBond}
use Rattle.pbd_pair.specs.Projecting.{ShareNone, IsBatch}
use Rattle.pbd_schedule.specs.declared.event.Event.{Event}
use Rattle.pbd_schedule.specs.Legal.{IsLegal}
use Rattle.pbd_schedule.specs.Mixed.{Mixed, no_note, noted_outcome, bond_at, mixed, interleaved}
use Rattle.pbd_schedule.specs.Stages.{stage_at, mix_of}
use Rattle.pbd_schedule.proofs.Legality.{all_stages}
use Rattle.pbd_schedule.proofs.Standing.{books, booked_at, booked_same}
use Rattle.pbd_schedule.proofs.Interleaving.{Come, come_all, stands_together, noted, same_together}

module _ (limit : ℤ) (B : ℕ → Bond) (m : ℕ) (ps : List Particle) (t : Ledger) (bonds : (k : ℕ) → k < m → IsBond limit (length ps) (B k))
    (apart : (i k : ℕ) → i < k → k < m → ShareNone (B i) (B k)) where
  three : (events : List Event) (x : Mixed) (c : Come limit B m ps t bonds apart events x) → IsLegal m events → (k : ℕ) → k < m
      → stage_at c.stages k ≡ 3
  three events x c legal k q = all_stages c.stages events c.came (subst (λ (n : ℕ). IsLegal n events) (sym c.many) legal) k
      (omega (arith, q, c.many))

  module _ (events others : List Event) (x y : Mixed) (c : Come limit B m ps t bonds apart events x)
      (d : Come limit B m ps t bonds apart others y) (p : IsLegal m events) (q : IsLegal m others) where
    places : x.particles ≡ y.particles
    places = same_together limit B m ps t bonds apart x.particles y.particles
        (stands_together limit B m ps t bonds apart (stage_at c.stages) x c.stand (three events x c p))
        (stands_together limit B m ps t bonds apart (stage_at d.stages) y d.stand (three others y d q))

    totals : x.totals ≡ y.totals
    totals =
        c.stand.totals
        ∙ booked_same (stage_at d.stages) (stage_at c.stages) (books limit B ps) m t
        (λ k l u. ap (λ (s : ℕ). booked_at s (books limit B ps k) u) (three events x c p k l ∙ sym (three others y d q k l)))
        ∙ sym d.stand.totals

    notes : x.notes ≡ y.notes
    notes = ext_get_or no_note x.notes y.notes (c.stand.size ∙ sym d.stand.size) (λ i l.
        noted limit B m ps t bonds apart (stage_at c.stages) x c.stand (three events x c p) i (omega (arith, l, c.stand.size))
        ∙ sym (noted limit B m ps t bonds apart (stage_at d.stages) y d.stand (three others y d q) i (omega (arith, l, c.stand.size))))

    same_mix : x ≡ y
    same_mix i = record { particles = places i; totals = totals i; notes = notes i }

pub alike : (limit : ℤ) (bonds : Bonds) (batch : List ℕ) (before : Motion) → IsBatch limit (length before.particles) bonds batch
    → (events others : List Event) → IsLegal (length batch) events → IsLegal (length batch) others
    → interleaved limit (bond_of bonds) batch events before ≡ interleaved limit (bond_of bonds) batch others before
alike limit bonds batch before h events others p q =
    let B : ℕ → Bond = bond_at (bond_of bonds) batch in
    let start : Mixed = mix_of before.particles before.totals (replicate (length batch) no_note) in
    ap (noted_outcome batch)
    (same_mix limit B (length batch) before.particles before.totals h.bond h.apart.each events others (mixed limit B events start)
    (mixed limit B others start)
    (come_all limit B (length batch) before.particles before.totals h.bond h.apart.each events p)
    (come_all limit B (length batch) before.particles before.totals h.bond h.apart.each others q) p q)
