-- Blocks whose lanes are saved.
use Rattle.std.proofs.Common.{◌≡◌, sym, ap, ◌∙◌, ℕ, ◌+◌, ◌-◌, ◌*◌, ◌<◌, ◌≤◌, Bool, true, false, cond, IsTrue, List, length, get_or, map}
use Rattle.std.proofs.Common.{slice_set, nat_lt, ℤ, pos, arith, subst, inl, inr}
use Rattle.std.proofs.lemmas.Bool.{cond-true, cases_lt, lt-ltb, cases_Bool, false≢true}
use Rattle.std.proofs.lemmas.List.{ext_get_or, get_or-map, length-map}
use Rattle.std.proofs.lemmas.List.FromFn.{get_or-map-range_with_len}
use Rattle.pbd_num.specs.declared.Vec3.{Vec3}
use Rattle.pbd_world.specs.declared.parts.Particle.{Particle}
use Rattle.pbd_world.specs.Particles.{particle_at, no_particle}
use Rattle.pbd_lanes.specs.Lane.{lane, is_set}
use Rattle.pbd_store.specs.Blocks.{filled_lanes, loaded, place_of, Saved}
use Rattle.pbd_store.proofs.Saving.{saved_more}

-- a lane has a particle up to the end of the list
pub filled_is : (n block j : ℕ) (ps : List Particle) → j < n → is_set (filled_lanes n block ps) j ≡ nat_lt (block * n + j) (length ps)
filled_is n block j ps h = get_or-map-range_with_len (λ k. nat_lt (block * n + k) (length ps)) 0 n j j false h (omega arith)

-- what a lane holds
pub loaded_is : {A : Type 0} (n block j : ℕ) (f : Particle → A) (ps : List Particle) (d : A) → j < n
    → get_or (loaded n block f ps) j d ≡ f (particle_at ps (block * n + j))
loaded_is n block j f ps d h = get_or-map-range_with_len (λ k. f (particle_at ps (block * n + k))) 0 n j j d h (omega arith)

module _ (start : ℕ) (set : List Bool) (at before : ℕ → Vec3) (old : List Particle) where
  -- one lane more
  pub saved_on : (new : List Particle) (j : ℕ) → Saved j start set at before old new → is_set set j ≡ true → start + j < length old
      → Saved (j + 1) start set at before old (slice_set new (start + j)
      (record (particle_at new (start + j)) { at = at j; before = before j }))
  saved_on new j h s l =
      let v : Particle = record (particle_at new (start + j)) { at = at j; before = before j } in
      let within : nat_lt (start + j) (length new) ≡ true = lt-ltb (start + j) (length new) (omega (arith, h.whole)) in
      subst (λ (ps : List Particle). Saved (j + 1) start set at before old ps)
      (cond-true (is_set set j) (cond (nat_lt (start + j) (length new)) (slice_set new (start + j) v) new) new s
      ∙ cond-true (nat_lt (start + j) (length new)) (slice_set new (start + j) v) new within)
      (saved_more start set at before old new j h)

  -- lanes past the end of the list save nothing
  pub saved_rest : (new : List Particle) (j n : ℕ) → length old ≤ start + j → j ≤ n → Saved j start set at before old new
      → Saved n start set at before old new
  saved_rest new j n past le h = record {
    whole = h.whole;
    lanes = λ k p l s. h.lanes k (omega arith) l s;
    others = λ i f. h.others i (λ k p s e. f k (omega arith) s e);
  }

  -- a particle of which no lane is saved yet
  pub saved_not_yet : (new : List Particle) (j : ℕ) → Saved j start set at before old new
      → particle_at new (start + j) ≡ particle_at old (start + j)
  saved_not_yet new j h = h.others (start + j) (λ k p s e. absurd (omega arith))

  -- what holds of each lane that is saved, and of each particle as it was, holds of each particle
  pub saved_each : (Q : ℕ → Particle → Type 0) (n : ℕ) (new : List Particle) → Saved n start set at before old new
      → ((j : ℕ) → j < n → start + j < length old → Q (start + j) (record (particle_at old (start + j)) { at = at j; before = before j }))
      → ((i : ℕ) → i < length old → Q i (particle_at old i)) → (i : ℕ) → i < length old → Q i (particle_at new i)
  saved_each Q n new h f g i l = elim (cases_lt i start) [
    | inl p ↦ outside (λ j q s e. absurd (omega arith))
    | inr p ↦ elim (cases_lt (i - start) n) [
      | inl q ↦ subst (λ (m : ℕ). Q m (particle_at new m)) (back i p) (lane (i - start) q (omega arith))
      | inr q ↦ outside (λ j r s e. absurd (omega arith))
    ]
  ]
    where
      back : (i : ℕ) → start ≤ i → start + (i - start) ≡ i
      back i p = omega arith

      outside : ((j : ℕ) → j < n → IsTrue (is_set set j) → start + j ≡ i → ⊥) → Q i (particle_at new i)
      outside f = subst (Q i) (sym (h.others i f)) (g i l)

      lane : (j : ℕ) → j < n → start + j < length old → Q (start + j) (particle_at new (start + j))
      lane j p q = elim (cases_Bool (is_set set j)) [
        | inl s ↦ subst (Q (start + j)) (sym (h.lanes j p q s)) (f j p q)
        | inr u ↦ subst (Q (start + j)) (sym (h.others (start + j) (λ m r s e. false≢true (sym u ∙ ap (is_set set) (offsets_agree m j e) ∙ s))))
            (g (start + j) q)
      ]
        where
          offsets_agree : (m j : ℕ) → start + m ≡ start + j → j ≡ m
          offsets_agree m j e = omega arith

  -- what is saved is determined
  pub saved_once : (n : ℕ) (new other : List Particle) → Saved n start set at before old new → Saved n start set at before old other
      → new ≡ other
  saved_once n new other h k = ext_get_or no_particle new other (h.whole ∙ sym k.whole) (λ i p. each i (omega (arith, h.whole)))
    where
      outside : (i : ℕ) → ((j : ℕ) → j < n → IsTrue (is_set set j) → start + j ≡ i → ⊥) → particle_at new i ≡ particle_at other i
      outside i f = h.others i f ∙ sym (k.others i f)

      lane : (i j : ℕ) → start + j ≡ i → j < n → start + j < length old → particle_at new i ≡ particle_at other i
      lane i j e p l = elim (cases_Bool (is_set set j)) [
        | inl s ↦ subst (λ (m : ℕ). particle_at new m ≡ particle_at other m) e (h.lanes j p l s ∙ sym (k.lanes j p l s))
        | inr u ↦ outside i (λ m q s f. false≢true (sym u ∙ ap (is_set set) (offsets_agree m j i f e) ∙ s))
      ]
        where
          offsets_agree : (m j i : ℕ) → start + m ≡ i → start + j ≡ i → j ≡ m
          offsets_agree m j i f e = omega arith

      each : (i : ℕ) → i < length old → particle_at new i ≡ particle_at other i
      each i l = elim (cases_lt i start) [
        | inl p ↦ outside i (λ j q s e. absurd (omega arith))
        | inr p ↦ elim (cases_lt (i - start) n) [
          | inl q ↦ lane i (i - start) (omega arith) q (omega arith)
          | inr q ↦ outside i (λ j r s e. absurd (omega arith))
        ]
      ]

-- by the same lanes
pub saved_as : {n start : ℕ} {set : List Bool} {at at' before before' : ℕ → Vec3} {old new : List Particle}
    → ((j : ℕ) → j < n → at j ≡ at' j) → ((j : ℕ) → j < n → before j ≡ before' j) → Saved n start set at before old new
    → Saved n start set at' before' old new
saved_as {n} {start} {set} {at} {at'} {before} {before'} {old} f g h = record {
  whole = h.whole;
  lanes = λ j p l s. h.lanes j p l s ∙ (λ i. record (particle_at old (start + j)) { at = f j p i; before = g j p i });
  others = h.others;
}

-- ---- parts that stay

pub same_parts : (f : Particle → Particle) (new old : List Particle) → length new ≡ length old
    → ((i : ℕ) → i < length old → f (particle_at new i) ≡ f (particle_at old i)) → map f new ≡ map f old
same_parts f new old e h = ext_get_or no_particle (map f new) (map f old) (length-map new f ∙ e ∙ sym (length-map old f))
    (λ i p. each i (omega (arith, length-map new f)))
  where
    each : (i : ℕ) → i < length old → get_or (map f new) i no_particle ≡ get_or (map f old) i no_particle
    each i p = get_or-map f new i no_particle no_particle (omega (arith, e)) ∙ h i p ∙ sym (get_or-map f old i no_particle no_particle p)

-- the place in a lane
pub place_loaded : {xs ys zs : List ℤ} (f : Particle → Vec3) (n block j : ℕ) (ps : List Particle) → xs ≡ loaded n block (λ p. (f p).x) ps
    → ys ≡ loaded n block (λ p. (f p).y) ps → zs ≡ loaded n block (λ p. (f p).z) ps → j < n
    → place_of xs ys zs j ≡ f (particle_at ps (block * n + j))
place_loaded f n block j ps ex ey ez h = λ i. record {
  x = (ap (λ (l : List ℤ). lane l j) ex ∙ loaded_is n block j (λ p. (f p).x) ps (pos 0) h) i;
  y = (ap (λ (l : List ℤ). lane l j) ey ∙ loaded_is n block j (λ p. (f p).y) ps (pos 0) h) i;
  z = (ap (λ (l : List ℤ). lane l j) ez ∙ loaded_is n block j (λ p. (f p).z) ps (pos 0) h) i;
}

pub held_loaded : {bs : List Bool} (n block j : ℕ) (ps : List Particle) → bs ≡ loaded n block (λ p. p.held) ps → j < n
    → is_set bs j ≡ (particle_at ps (block * n + j)).held
held_loaded n block j ps e h = ap (λ (l : List Bool). is_set l j) e ∙ loaded_is n block j (λ p. p.held) ps false h

module _ (n block : ℕ) {set : List Bool} {at before : ℕ → Vec3} (at' before' : ℕ → Vec3) (old new : List Particle)
    (es : set ≡ filled_lanes n block old) (ea : (j : ℕ) → j < n → at j ≡ at' j) (eb : (j : ℕ) → j < n → before j ≡ before' j) where
  -- what a save of a block's own lanes has done, by the places that were meant
  pub block_saved : Saved n (block * n) set at before old new → Saved n (block * n) (filled_lanes n block old) at' before' old new
  block_saved h = subst (λ (s : List Bool). Saved n (block * n) s at' before' old new) es (saved_as ea eb h)

-- the same from an equal number on, of an equal list
pub saved_of : {n start first : ℕ} {set : List Bool} {at before : ℕ → Vec3} {old ps new : List Particle} → start ≡ first → old ≡ ps
    → Saved n start set at before old new → Saved n first set at before ps new
saved_of {n} {start} {first} {set} {at} {before} {old} {ps} {new} e v h =
    subst (λ (qs : List Particle). Saved n first set at before qs new) v (subst (λ (k : ℕ). Saved n k set at before old new) e h)
