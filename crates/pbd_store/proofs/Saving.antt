use Rattle.std.proofs.Common.{◌≡◌, ℕ, ◌+◌, ◌<◌, ◌≤◌, List, length, Bool, true, false, cond, refl, sym, ◌∙◌, ap, arith, inl, inr, slice_set}
use Rattle.std.proofs.Common.{subst, nat_lt}
use Rattle.std.proofs.lemmas.Bool.{false≢true, ltb-true, ltb-false}
use Rattle.std.proofs.lemmas.List.{get_or-set_same, get_or-set_other, length-set}
use Rattle.pbd_num.specs.declared.Vec3.{Vec3}
use Rattle.pbd_world.specs.declared.parts.Particle.{Particle}
use Rattle.pbd_lanes.specs.Lane.{is_set}
use Rattle.pbd_store.specs.Blocks.{Saved}
use Rattle.pbd_world.specs.Particles.{particle_at, no_particle}
use Rattle.pbd_num.proofs.Below.{split_below}

-- nothing yet
pub saved_none : (start : ℕ) (set : List Bool) (at before : ℕ → Vec3) (ps : List Particle) → Saved 0 start set at before ps ps
saved_none start set at before ps = record { whole = refl; lanes = λ j h. absurd (omega arith); others = λ i h. refl }

module _ (start : ℕ) (set : List Bool) (at before : ℕ → Vec3) (old new : List Particle) (j : ℕ)
    (h : Saved j start set at before old new) where
  skipped : is_set set j ≡ false → Saved (j + 1) start set at before old new
  skipped unset = record {
    whole = h.whole;
    lanes = λ k p l s. elim (split_below k j p) [
      | inl q ↦ h.lanes k q l s
      | inr e ↦ absurd
          (false≢true (sym unset ∙ ap (is_set set) (sym e) ∙ s))
    ];
    others = λ i f. h.others i (λ k p s e. f k (omega arith) s e);
  }

  past : length old ≤ start + j → Saved (j + 1) start set at before old new
  past q = record {
    whole = h.whole;
    lanes = λ k p l s. h.lanes k (omega arith) l s;
    others = λ i f. h.others i (λ k p s e. f k (omega arith) s e);
  }

  moved : is_set set j ≡ true → start + j < length old → Saved (j + 1) start set at before old
      (slice_set new (start + j) (record (particle_at new (start + j)) { at = at j; before = before j }))
  moved is_so within =
      let v : Particle = record (particle_at new (start + j)) { at = at j; before = before j } in
      let here : particle_at new (start + j) ≡ particle_at old (start + j) = h.others (start + j) (λ k p s e. absurd (omega arith)) in
      record {
        whole = length-set new (start + j) v ∙ h.whole;
        lanes = λ k p l s. elim (split_below k j p) [
          | inl q ↦ get_or-set_other new (start + j) (start + k) v no_particle (λ e. absurd (omega arith)) ∙ h.lanes k q l s
          | inr e ↦ subst (λ (m : ℕ). particle_at (slice_set new (start + j) v) (start + m)
              ≡ record (particle_at old (start + m)) { at = at m; before = before m }) (sym e)
              (get_or-set_same new (start + j) v no_particle (omega (arith, h.whole))
              ∙ ap (λ (p : Particle). record p { at = at j; before = before j }) here)
        ];
        others = λ i f. get_or-set_other new (start + j) i v no_particle (λ e. f j (omega arith) is_so (sym e))
            ∙ h.others i (λ k p s e. f k (omega arith) s e);
      }

-- one turn
pub saved_more : (start : ℕ) (set : List Bool) (at before : ℕ → Vec3) (old new : List Particle) (j : ℕ)
    → Saved j start set at before old new → Saved (j + 1) start set at before old
    (cond (is_set set j) (cond (nat_lt (start + j) (length new))
    (slice_set new (start + j) (record (particle_at new (start + j)) { at = at j; before = before j })) new) new)
saved_more start set at before old new j h = by_case (is_set set j) refl (nat_lt (start + j) (length new)) refl where
  by_case : (b : Bool) → is_set set j ≡ b → (l : Bool) → nat_lt (start + j) (length new) ≡ l
      → Saved (j + 1) start set at before old (cond b (cond l
      (slice_set new (start + j) (record (particle_at new (start + j)) { at = at j; before = before j })) new) new)
  by_case true e true l = moved start set at before old new j h e (omega (arith, h.whole, ltb-true (start + j) (length new) l))
  by_case true e false l = past start set at before old new j h (omega (arith, h.whole, ltb-false (start + j) (length new) l))
  by_case false e l f = skipped start set at before old new j h e
