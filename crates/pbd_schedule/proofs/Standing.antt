-- How far the bonds of a batch have come, one event after another.
use Rattle.std.proofs.Common.{◌≡◌, ◌≢◌, ℕ, zero, suc, ◌+◌, ◌<◌, ℤ, List, length, set, refl, sym, ◌∙◌, ap, arith, subst, inl, inr}
use Rattle.std.proofs.lemmas.Bool.{cases_eq, cases_lt}
use Rattle.std.proofs.lemmas.List.{get_or-set_same, get_or-set_other, length-set}
use Rattle.pbd_world.specs.declared.parts.Particle.{Particle}
use Rattle.pbd_world.specs.declared.bond.Bond.{Bond}
use Rattle.pbd_num.specs.declared.Vec3.{Vec3}
use Rattle.pbd_world.specs.declared.bond.Shift.{Shift}
use Rattle.pbd_world.specs.declared.bond.Correction.{Correction}
use Rattle.pbd_world.specs.declared.bond.Correction.TheVariants.{Slack, Leaves, Moves}
use Rattle.pbd_world.specs.Ledger.{Ledger}
use Rattle.pbd_world.specs.Particles.{particle_at, placed}
use Rattle.pbd_world.specs.Bonds.{correction_at, correction_of, end_of}
use Rattle.pbd_store.proofs.Scattering.{placed_same, placed_other, length-placed}
use Rattle.pbd_pair.specs.declared.parts.Note.{Note}
use Rattle.pbd_pair.specs.Bonds.{IsBond}
use Rattle.pbd_pair.specs.Projecting.{ShareNone}
use Rattle.pbd_pair.proofs.Correcting.{booked_by}
use Rattle.pbd_pair.proofs.Together.{first_by, second_by}
use Rattle.pbd_schedule.specs.declared.event.Event.{Event}
use Rattle.pbd_schedule.specs.declared.event.Event.TheVariants.{Read, WriteA, WriteB}
use Rattle.pbd_schedule.specs.Legal.{position_of}
use Rattle.pbd_schedule.specs.Mixed.{Mixed, no_note, note_at, note_of, first_written, second_written, happened}
use Rattle.pbd_schedule.specs.Stages.{rank_of}
use Rattle.pbd_schedule.proofs.Booking.{bonds_swap}

-- what so many of a bond's events make of its first particle, of its second, and of the ledger
abbrev pub first_at : ℕ → Correction → Particle → Particle
first_at zero c p = p
first_at (suc zero) c p = p
first_at (suc (suc s)) c p = first_by c p

abbrev pub second_at : ℕ → Correction → Particle → Particle
second_at zero c p = p
second_at (suc zero) c p = p
second_at (suc (suc zero)) c p = p
second_at (suc (suc (suc s))) c p = second_by c p

abbrev pub booked_at : ℕ → (Ledger → Ledger) → Ledger → Ledger
booked_at zero f t = t
booked_at (suc zero) f t = t
booked_at (suc (suc zero)) f t = t
booked_at (suc (suc (suc s))) f t = f t

abbrev pub booked_up : (ℕ → ℕ) → (ℕ → Ledger → Ledger) → ℕ → Ledger → Ledger
booked_up st f zero t = t
booked_up st f (suc n) t = booked_at (st n) (f n) (booked_up st f n t)

-- ---- the ledger

pub booked_same : (st st' : ℕ → ℕ) (f : ℕ → Ledger → Ledger) (n : ℕ) (t : Ledger)
    → ((k : ℕ) → k < n → (u : Ledger) → booked_at (st' k) (f k) u ≡ booked_at (st k) (f k) u) → booked_up st' f n t ≡ booked_up st f n t
booked_same st st' f zero t h = refl
booked_same st st' f (suc n) t h = h n (omega arith) (booked_up st' f n t)
    ∙ ap (booked_at (st n) (f n)) (booked_same st st' f n t (λ k q. h k (omega arith)))

at_swap : (s : ℕ) (f g : Ledger → Ledger) → ((t : Ledger) → f (g t) ≡ g (f t)) → (t : Ledger) → booked_at s f (g t) ≡ g (booked_at s f t)
at_swap zero f g h t = refl
at_swap (suc zero) f g h t = refl
at_swap (suc (suc zero)) f g h t = refl
at_swap (suc (suc (suc s))) f g h t = h t

booked_more : (st st' : ℕ → ℕ) (f : ℕ → Ledger → Ledger) → ((k l : ℕ) (t : Ledger) → f k (f l t) ≡ f l (f k t)) → (p n : ℕ) (t : Ledger)
    → p < n → st p ≡ 2 → st' p ≡ 3 → ((k : ℕ) → k ≢ p → st' k ≡ st k) → booked_up st' f n t ≡ f p (booked_up st f n t)
booked_more st st' f swap p zero t q a b o = absurd (omega arith)
booked_more st st' f swap p (suc n) t q a b o = elim (cases_eq n p) [
  | inl r ↦ (
      ap (λ (s : ℕ). booked_at s (f n) (booked_up st' f n t)) (ap st' r ∙ b)
      ∙ ap (f n) (booked_same st st' f n t (λ k l u. ap (λ (s : ℕ). booked_at s (f k) u) (o k (λ x. absurd (omega (arith, x, r))))))
      ∙ ap (λ (j : ℕ). f j (booked_up st f n t)) r
      ∙ ap (f p) (sym (ap (λ (s : ℕ). booked_at s (f n) (booked_up st f n t)) (ap st r ∙ a))))
  | inr d ↦ (
      ap (λ (s : ℕ). booked_at s (f n) (booked_up st' f n t)) (o n d)
      ∙ ap (booked_at (st n) (f n)) (booked_more st st' f swap p n t (omega (arith, d)) a b o)
      ∙ at_swap (st n) (f n) (f p) (swap n p) (booked_up st f n t))
]

pub booked_none : (f : ℕ → Ledger → Ledger) (st : ℕ → ℕ) (n : ℕ) (t : Ledger) → ((k : ℕ) → k < n → st k ≡ 0) → booked_up st f n t ≡ t
booked_none f st zero t h = refl
booked_none f st (suc n) t h = ap (λ (s : ℕ). booked_at s (f n) (booked_up st f n t)) (h n (omega arith))
    ∙ booked_none f st n t (λ k q. h k (omega arith))

-- ---- one end

-- an end that a correction moves is put where it says
abbrev end_placed : (Shift → Vec3) → List Particle → ℕ → Correction → List Particle
end_placed to qs e Slack = qs
end_placed to qs e Leaves = qs
end_placed to qs e (Moves s) = placed qs e (to s)

end_here : (by : Correction → Particle → Particle) (to : Shift → Vec3) → ((p : Particle) → p ≡ by Slack p) → ((p : Particle) → p ≡ by Leaves p)
    → ((s : Shift) (p : Particle) → record p { at = to s } ≡ by (Moves s) p) → (qs : List Particle) (e : ℕ) (c : Correction) → e < length qs
    → particle_at (end_placed to qs e c) e ≡ by c (particle_at qs e)
end_here by to slack leaves moves qs e Slack h = slack (particle_at qs e)
end_here by to slack leaves moves qs e Leaves h = leaves (particle_at qs e)
end_here by to slack leaves moves qs e (Moves s) h = placed_same qs e (to s) h ∙ moves s (particle_at qs e)

end_there : (to : Shift → Vec3) (qs : List Particle) (e : ℕ) (c : Correction) (i : ℕ) → i ≢ e
    → particle_at (end_placed to qs e c) i ≡ particle_at qs i
end_there to qs e Slack i h = refl
end_there to qs e Leaves i h = refl
end_there to qs e (Moves s) i h = placed_other qs e i (to s) h

end_whole : (to : Shift → Vec3) (qs : List Particle) (e : ℕ) (c : Correction) → length (end_placed to qs e c) ≡ length qs
end_whole to qs e Slack = refl
end_whole to qs e Leaves = refl
end_whole to qs e (Moves s) = length-placed qs e (to s)

abbrev first_placed : List Particle → Bond → Correction → List Particle
first_placed qs b c = end_placed (λ s. s.first) qs b.a c

abbrev second_placed : List Particle → Bond → Correction → List Particle
second_placed qs b c = end_placed (λ s. s.second) qs b.b c

first_is : (b : Bond) (c : Correction) (x : Mixed) → first_written b c x ≡ record x { particles = first_placed x.particles b c }
first_is b Slack x = refl
first_is b Leaves x = refl
first_is b (Moves s) x = refl

second_is : (b : Bond) (note : Note) (c : Correction) (x : Mixed)
    → second_written b note c x ≡ record x {
      particles = second_placed x.particles b c;
      totals = booked_by note.first_held note.second_held b c x.totals;
    }
second_is b note Slack x = refl
second_is b note Leaves x = refl
second_is b note (Moves s) x = refl

-- ---- the batch

-- what bond k books
abbrev pub books : ℤ → (ℕ → Bond) → List Particle → ℕ → Ledger → Ledger
books limit B ps k t = booked_by (particle_at ps (B k).a).held (particle_at ps (B k).b).held (B k) (correction_at limit ps (B k)) t

-- from ps and t, so many events of each of the first m bonds have led to x
pub record Stand (limit : ℤ) (B : ℕ → Bond) (m : ℕ) (ps : List Particle) (t : Ledger) (st : ℕ → ℕ) (x : Mixed) : Type 0 where
  pub whole : length x.particles ≡ length ps
  pub firsts : (k : ℕ) → k < m → particle_at x.particles (B k).a ≡ first_at (st k) (correction_at limit ps (B k)) (particle_at ps (B k).a)
  pub seconds : (k : ℕ) → k < m → particle_at x.particles (B k).b ≡ second_at (st k) (correction_at limit ps (B k)) (particle_at ps (B k).b)
  pub others : (i : ℕ) → ((k : ℕ) → k < m → ((B k).a ≡ i → ⊥) × ((B k).b ≡ i → ⊥)) → particle_at x.particles i ≡ particle_at ps i
  pub size : length x.notes ≡ m
  pub notes : (k : ℕ) → k < m → 0 < st k → note_at x.notes k ≡ note_of limit ps (B k)
  pub totals : x.totals ≡ booked_up st (books limit B ps) m t

module _ (limit : ℤ) (B : ℕ → Bond) (m : ℕ) (ps : List Particle) (t : Ledger) (bonds : (k : ℕ) → k < m → IsBond limit (length ps) (B k))
    (apart : (i k : ℕ) → i < k → k < m → ShareNone (B i) (B k)) where
  differ : (i k : ℕ) → i ≢ k → i < m → k < m → ShareNone (B i) (B k)
  differ i k n h q = elim (cases_lt i k) [
    | inl l ↦ apart i k l q
    | inr l ↦ (let s = apart k i (omega (arith, l, n)) h in
        record { aa = λ x. s.aa (sym x); ab = λ x. s.ba (sym x); ba = λ x. s.ab (sym x); bb = λ x. s.bb (sym x) })
  ]

  module _ (st st' : ℕ → ℕ) (x : Mixed) (s : Stand limit B m ps t st x) (p : ℕ) (h : p < m) (others : (k : ℕ) → k ≢ p → st' k ≡ st k) where
    -- what is the same at both stages of bond p is the same of every bond
    kept : {A : Type 0} (F : ℕ → ℕ → A) → F p (st' p) ≡ F p (st p) → (k : ℕ) → F k (st' k) ≡ F k (st k)
    kept F e k = elim (cases_eq k p) [
      | inl r ↦ subst (λ (j : ℕ). F j (st' j) ≡ F j (st j)) (sym r) e
      | inr d ↦ ap (F k) (others k d)
    ]

    -- so are the ends of bonds, where both stages of bond p make the same of its end
    ends_kept : (stage : ℕ → Correction → Particle → Particle) (end : Bond → ℕ) {a b : ℕ} → st p ≡ a → st' p ≡ b
        → ((c : Correction) (q : Particle) → stage b c q ≡ stage a c q) → (k : ℕ)
        → stage (st' k) (correction_at limit ps (B k)) (particle_at ps (end (B k)))
        ≡ stage (st k) (correction_at limit ps (B k)) (particle_at ps (end (B k)))
    ends_kept stage end {a} {b} ea eb f k = kept (λ j z. stage z (correction_at limit ps (B j)) (particle_at ps (end (B j))))
        (ap (λ (z : ℕ). stage z (correction_at limit ps (B p)) (particle_at ps (end (B p)))) eb
        ∙ f (correction_at limit ps (B p)) (particle_at ps (end (B p)))
        ∙ sym (ap (λ (z : ℕ). stage z (correction_at limit ps (B p)) (particle_at ps (end (B p)))) ea)) k

    -- and where an end of bond p alone goes where its correction says, from nothing done to all done
    ends_moved : (stage : ℕ → Correction → Particle → Particle) (end : Bond → ℕ) (by : Correction → Particle → Particle) (qs : List Particle)
        {a b : ℕ} → st p ≡ a → st' p ≡ b → ((c : Correction) (q : Particle) → stage a c q ≡ q)
        → ((c : Correction) (q : Particle) → by c q ≡ stage b c q)
        → ((k : ℕ) → k < m → particle_at x.particles (end (B k)) ≡ stage (st k) (correction_at limit ps (B k)) (particle_at ps (end (B k))))
        → particle_at qs (end (B p)) ≡ by (correction_at limit ps (B p)) (particle_at x.particles (end (B p)))
        → ((k : ℕ) → k < m → k ≢ p → particle_at qs (end (B k)) ≡ particle_at x.particles (end (B k))) → (k : ℕ) → k < m
        → particle_at qs (end (B k)) ≡ stage (st' k) (correction_at limit ps (B k)) (particle_at ps (end (B k)))
    ends_moved stage end by qs ea eb nothing all stood here there k q = elim (cases_eq k p) [
      | inl r ↦ subst (λ (j : ℕ). particle_at qs (end (B j)) ≡ stage (st' j) (correction_at limit ps (B j)) (particle_at ps (end (B j))))
          (sym r) (here
          ∙ ap (by (correction_at limit ps (B p))) (stood p h
          ∙ ap (λ (z : ℕ). stage z (correction_at limit ps (B p)) (particle_at ps (end (B p)))) ea
          ∙ nothing (correction_at limit ps (B p)) (particle_at ps (end (B p))))
          ∙ all (correction_at limit ps (B p)) (particle_at ps (end (B p)))
          ∙ sym (ap (λ (z : ℕ). stage z (correction_at limit ps (B p)) (particle_at ps (end (B p)))) eb))
      | inr d ↦ there k q d ∙ stood k q
          ∙ sym (ap (λ (z : ℕ). stage z (correction_at limit ps (B k)) (particle_at ps (end (B k)))) (others k d))
    ]

    totals_kept : {a b : ℕ} → st p ≡ a → st' p ≡ b → ((f : Ledger → Ledger) (u : Ledger) → booked_at b f u ≡ booked_at a f u)
        → booked_up st' (books limit B ps) m t ≡ booked_up st (books limit B ps) m t
    totals_kept {a} {b} ea eb f = booked_same st st' (books limit B ps) m t
        (λ k q u. kept (λ j z. booked_at z (books limit B ps j) u)
        (ap (λ (z : ℕ). booked_at z (books limit B ps p) u) eb ∙ f (books limit B ps p) u
        ∙ sym (ap (λ (z : ℕ). booked_at z (books limit B ps p) u) ea)) k)

    noted_before : 0 < st p → (k : ℕ) → k < m → 0 < st' k → note_at x.notes k ≡ note_of limit ps (B k)
    noted_before z k q y = elim (cases_eq k p) [
      | inl r ↦ s.notes k q (subst (λ (j : ℕ). 0 < st j) (sym r) z)
      | inr d ↦ s.notes k q (omega (arith, y, others k d))
    ]

    pub stand_read : st p ≡ 0 → st' p ≡ 1 → Stand limit B m ps t st' (happened limit B (Read p) x)
    stand_read a b = record {
      whole = s.whole;
      firsts = λ k q. s.firsts k q ∙ sym (ends_kept first_at (λ b. b.a) a b (λ c r. refl) k);
      seconds = λ k q. s.seconds k q ∙ sym (ends_kept second_at (λ b. b.b) a b (λ c r. refl) k);
      others = s.others;
      size = length-set x.notes p (note_of limit x.particles (B p)) ∙ s.size;
      notes = λ k q y. elim (cases_eq k p) [
        | inl r ↦ subst (λ (j : ℕ). note_at (set x.notes p (note_of limit x.particles (B p))) j ≡ note_of limit ps (B j)) (sym r)
            (get_or-set_same x.notes p (note_of limit x.particles (B p)) no_note (omega (arith, h, s.size)) ∙ read)
        | inr d ↦ get_or-set_other x.notes p k (note_of limit x.particles (B p)) no_note d ∙ s.notes k q (omega (arith, y, others k d))
      ];
      totals = s.totals ∙ sym (totals_kept a b (λ f u. refl));
    } where
      ea : particle_at x.particles (B p).a ≡ particle_at ps (B p).a
      ea = s.firsts p h ∙ ap (λ (z : ℕ). first_at z (correction_at limit ps (B p)) (particle_at ps (B p).a)) a

      eb : particle_at x.particles (B p).b ≡ particle_at ps (B p).b
      eb = s.seconds p h ∙ ap (λ (z : ℕ). second_at z (correction_at limit ps (B p)) (particle_at ps (B p).b)) a

      read : note_of limit x.particles (B p) ≡ note_of limit ps (B p)
      read = λ i. record {
        correction = correction_of limit (end_of (ea i)) (end_of (eb i)) (B p);
        first_held = (ea i).held;
        second_held = (eb i).held;
      }

    pub stand_first : st p ≡ 1 → st' p ≡ 2 → Stand limit B m ps t st' (happened limit B (WriteA p) x)
    stand_first a b = subst (Stand limit B m ps t st') (sym
        (ap (λ (n : Note). first_written (B p) n.correction x) (s.notes p h (omega (arith, a)))
        ∙ first_is (B p) (correction_at limit ps (B p)) x)) (record {
          whole = end_whole (λ s. s.first) x.particles (B p).a (correction_at limit ps (B p)) ∙ s.whole;
          firsts = ends_moved first_at (λ b. b.a) first_by (first_placed x.particles (B p) (correction_at limit ps (B p))) a b (λ c r. refl)
              (λ c r. refl) s.firsts (end_here first_by (λ s. s.first) (λ q. refl) (λ q. refl) (λ s q. refl) x.particles (B p).a
              (correction_at limit ps (B p)) (omega (arith, (bonds p h).first, s.whole)))
              (λ k q d. end_there (λ s. s.first) x.particles (B p).a (correction_at limit ps (B p)) (B k).a (differ k p d q h).aa);
          seconds = λ k q. end_there (λ s. s.first) x.particles (B p).a (correction_at limit ps (B p)) (B k).b (cross k q) ∙ s.seconds k q
              ∙ sym (ends_kept second_at (λ b. b.b) a b (λ c r. refl) k);
          others = λ i f. end_there (λ s. s.first) x.particles (B p).a (correction_at limit ps (B p)) i (λ e. (f p h).0 (sym e)) ∙ s.others i f;
          size = s.size;
          notes = noted_before (omega (arith, a));
          totals = s.totals ∙ sym (totals_kept a b (λ f u. refl));
        }) where
          cross : (k : ℕ) → k < m → (B k).b ≢ (B p).a
          cross k q e = elim (cases_eq k p) [
            | inl r ↦ (bonds p h).different (sym (ap (λ (j : ℕ). (B j).b) (sym r) ∙ e))
            | inr d ↦ (differ k p d q h).ba e
          ]

    pub stand_second : st p ≡ 2 → st' p ≡ 3 → Stand limit B m ps t st' (happened limit B (WriteB p) x)
    stand_second a b = subst (Stand limit B m ps t st') (sym
        (ap (λ (n : Note). second_written (B p) n n.correction x) (s.notes p h (omega (arith, a)))
        ∙ second_is (B p) (note_of limit ps (B p)) (correction_at limit ps (B p)) x)) (record {
          whole = end_whole (λ s. s.second) x.particles (B p).b (correction_at limit ps (B p)) ∙ s.whole;
          firsts = λ k q. end_there (λ s. s.second) x.particles (B p).b (correction_at limit ps (B p)) (B k).a (cross k q) ∙ s.firsts k q
              ∙ sym (ends_kept first_at (λ b. b.a) a b (λ c r. refl) k);
          seconds = ends_moved second_at (λ b. b.b) second_by (second_placed x.particles (B p) (correction_at limit ps (B p))) a b (λ c r. refl)
              (λ c r. refl) s.seconds (end_here second_by (λ s. s.second) (λ q. refl) (λ q. refl) (λ s q. refl) x.particles (B p).b
              (correction_at limit ps (B p)) (omega (arith, (bonds p h).second, s.whole)))
              (λ k q d. end_there (λ s. s.second) x.particles (B p).b (correction_at limit ps (B p)) (B k).b (differ k p d q h).bb);
          others = λ i f. end_there (λ s. s.second) x.particles (B p).b (correction_at limit ps (B p)) i (λ e. (f p h).1 (sym e)) ∙ s.others i f;
          size = s.size;
          notes = noted_before (omega (arith, a));
          totals = ap (books limit B ps p) s.totals ∙ sym (booked_more st st' (books limit B ps)
              (λ k l u. bonds_swap (particle_at ps (B k).a).held (particle_at ps (B k).b).held (particle_at ps (B l).a).held
              (particle_at ps (B l).b).held (B k) (B l) (correction_at limit ps (B k)) (correction_at limit ps (B l)) u) p m t h a b
              others);
        }) where
          cross : (k : ℕ) → k < m → (B k).a ≢ (B p).b
          cross k q e = elim (cases_eq k p) [
            | inl r ↦ (bonds p h).different (ap (λ (j : ℕ). (B j).a) (sym r) ∙ e)
            | inr d ↦ (differ k p d q h).ab e
          ]

  -- one event that may come
  pub stand_more : (st st' : ℕ → ℕ) (x : Mixed) (e : Event) → Stand limit B m ps t st x → position_of e < m → st (position_of e) ≡ rank_of e
      → st' (position_of e) ≡ st (position_of e) + 1 → ((k : ℕ) → k ≢ position_of e → st' k ≡ st k)
      → Stand limit B m ps t st' (happened limit B e x)
  stand_more st st' x (Read p) s h r g o = stand_read st st' x s p h o r (g ∙ ap (λ (n : ℕ). n + 1) r)
  stand_more st st' x (WriteA p) s h r g o = stand_first st st' x s p h o r (g ∙ ap (λ (n : ℕ). n + 1) r)
  stand_more st st' x (WriteB p) s h r g o = stand_second st st' x s p h o r (g ∙ ap (λ (n : ℕ). n + 1) r)
