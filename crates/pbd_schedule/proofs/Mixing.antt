-- Events and notes, one after another.
use Rattle.std.proofs.Common.{◌≡◌, ℕ, zero, suc, ◌<◌, ℤ, List, [], ◌∷◌, length, drop, get_or, set, cond, true, false, refl, sym, ◌∙◌, ap}
use Rattle.std.proofs.Common.{arith, subst, inl, inr, Some, unsigned_abs}
use Rattle.std.proofs.lemmas.Bool.{cases_eq}
use Rattle.std.proofs.lemmas.List.{get_or-set_same, get_or-set_other, length-set}
use Rattle.pbd_world.specs.declared.parts.Particle.{Particle}
use Rattle.pbd_world.specs.declared.bond.Correction.{Correction}
use Rattle.pbd_world.specs.declared.bond.Correction.TheVariants.{Slack, Leaves, Moves}
use Rattle.pbd_pair.specs.declared.parts.Note.{Note}
use Rattle.pbd_num.specs.declared.Vec3.{Vec3}
use Rattle.pbd_num.specs.Vectors.{Within}
use Rattle.pbd_world.specs.declared.bond.Shift.{Shift}
use Rattle.pbd_world.specs.Ledger.{ledger_of, HaveRoom}
use Rattle.pbd_world.specs.Particles.{placed}
use Rattle.pbd_store.specs.Stored.{Stored}
use Rattle.pbd_store.specs.Moving.{fixed_parts, AreInside}
use Rattle.pbd_store.proofs.Fixed.{same_length}
use Rattle.pbd_store.proofs.Parting.{placed_fixed}
use Rattle.pbd_pair.specs.declared.bonds.Bonds.{Bonds}
use Rattle.pbd_pair.specs.Bonds.{IsSound, IsSoundShift}
use Rattle.pbd_pair.specs.Projecting.{IsBatch}
use Rattle.pbd_pair.proofs.Correcting.{inside-placed}
use Rattle.pbd_schedule.specs.declared.mix.Mix.{Mix}
use Rattle.pbd_schedule.specs.Mixing.{CanMix, IsMoved, WorksOnSame}
use Rattle.pbd_schedule.specs.Mixed.{no_note, note_at, is_leaving, first_leaving}
use Rattle.pbd_schedule.specs.Stages.{AreSound}

pub sound_set : (limit : ℤ) (notes : List Note) (k : ℕ) (note : Note) → AreSound limit notes → IsSound limit note.correction
    → AreSound limit (set notes k note)
sound_set limit notes k note h s = record {
  each = λ j q. elim (cases_eq j k) [
    | inl e ↦ subst (λ (n : Note). IsSound limit n.correction)
        (sym (ap (λ (i : ℕ). note_at (set notes k note) i) e ∙ get_or-set_same notes k note no_note
        (omega (arith, e, length-set notes k note)))) s
    | inr d ↦ subst (λ (n : Note). IsSound limit n.correction) (sym (get_or-set_other notes k j note no_note d))
        (h.each j (omega (arith, length-set notes k note)))
  ];
}

-- the search from position k on
pub goes_on : (batch : List ℕ) (notes : List Note) (k : ℕ) → k < length batch → k < length notes
    → is_leaving (note_at notes k).correction ≡ false → first_leaving (drop (suc k) batch) (drop (suc k) notes)
    ≡ first_leaving (drop k batch) (drop k notes)
goes_on [] notes k h q f = absurd (omega arith)
goes_on (n ∷ batch) [] k h q f = absurd (omega arith)
goes_on (n ∷ batch) (note ∷ notes) zero h q f = sym (ap (λ b. cond b (Some n) (first_leaving batch notes)) f)
goes_on (n ∷ batch) (note ∷ notes) (suc k) h q f = goes_on batch notes k (omega arith) (omega arith) f

pub ends_at : (batch : List ℕ) (notes : List Note) (k : ℕ) → k < length batch → k < length notes
    → is_leaving (note_at notes k).correction ≡ true → first_leaving (drop k batch) (drop k notes) ≡ Some (get_or batch k 0)
ends_at [] notes k h q f = absurd (omega arith)
ends_at (n ∷ batch) [] k h q f = absurd (omega arith)
ends_at (n ∷ batch) (note ∷ notes) zero h q f = ap (λ b. cond b (Some n) (first_leaving batch notes)) f
ends_at (n ∷ batch) (note ∷ notes) (suc k) h q f = ends_at batch notes k (omega arith) (omega arith) f

pub not_leaving : (c : Correction) → (c ≡ Leaves → ⊥) → is_leaving c ≡ false
not_leaving Slack h = refl
not_leaving Leaves h = absurd (h refl)
not_leaving (Moves s) h = refl

-- of a sound correction the shift is sound
pub sound_shift : (limit : ℤ) {c : Correction} {shift : Shift} → c ≡ Moves shift → IsSound limit c → IsSoundShift limit shift
sound_shift limit is sound = subst (λ (c : Correction). IsSound limit c) is sound

-- a store is moved where one of its particles gets a place inside the limit
pub put_moves : (old new : Stored) {i : ℕ} {at : Vec3} → new.particles ≡ placed old.particles i at → new.limit ≡ old.limit
    → new.copies ≡ old.copies → i < length old.particles → AreInside old.limit old.particles → Within (unsigned_abs old.limit) at
    → IsMoved old new
put_moves old new {i} {at} put limit copies within inside there = record {
  limit = limit;
  copies = copies;
  fixed = ap fixed_parts put ∙ placed_fixed old.particles i at;
  inside = subst (λ (ps : List Particle). AreInside old.limit ps) (sym put)
      (inside-placed old.limit old.particles i at within inside there);
}

-- nothing was changed yet
pub moved_none : (store : Stored) → AreInside store.limit store.particles → IsMoved store store
moved_none store inside = record { limit = refl; copies = refl; fixed = refl; inside = inside }

pub works_on_itself : {l : ℕ} {G : Type 0} (mix : Mix l G) → WorksOnSame mix mix
works_on_itself mix = record { notes = refl; store = refl; totals = refl; steps = refl }

-- what is moved once more is moved
pub moved_on : {a b c : Stored} → IsMoved a b → IsMoved b c → IsMoved a c
moved_on {a} {b} {c} first then = record {
  limit = then.limit ∙ first.limit;
  copies = then.copies ∙ first.copies;
  fixed = then.fixed ∙ first.fixed;
  inside = subst (λ (limit : ℤ). AreInside limit c.particles) first.limit then.inside;
}

pub works_on_same : {l : ℕ} {G : Type 0} {a b c : Mix l G} → WorksOnSame a b → WorksOnSame b c → WorksOnSame a c
works_on_same first then = record {
  notes = then.notes ∙ first.notes;
  store = then.store ∙ first.store;
  totals = then.totals ∙ first.totals;
  steps = then.steps ∙ first.steps;
}

-- events may come once others came
pub may_go_on : {l : ℕ} {G : Type 0} (n m : ℕ) (bonds : Bonds) (batch : List ℕ) (a b : Mix l G) → CanMix n bonds batch a
    → IsMoved a.store.now b.store.now → length b.notes.now ≡ length a.notes.now → AreSound a.store.now.limit b.notes.now
    → HaveRoom m (ledger_of b.totals.now) → CanMix m bonds batch b
may_go_on n m bonds batch a b can moved notes sound room = record {
  batch = subst (λ (limit : ℤ). IsBatch limit (length b.store.now.particles) bonds batch) (sym moved.limit)
      (subst (λ (size : ℕ). IsBatch a.store.now.limit size bonds batch)
      (sym (same_length b.store.now.particles a.store.now.particles moved.fixed)) can.batch);
  notes = notes ∙ can.notes;
  sound = subst (λ (limit : ℤ). AreSound limit b.notes.now) (sym moved.limit) sound;
  inside = subst (λ (limit : ℤ). AreInside limit b.store.now.particles) (sym moved.limit) moved.inside;
  room = room;
}
