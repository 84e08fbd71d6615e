use Rattle.std.proofs.Common.{◌≡◌, ℕ, ◌+◌, ◌<◌, ◌⊎◌, ℤ, List, length, Bool, true, false, cond, IsTrue, refl, sym, ◌∙◌, ap, arith, inl, inr}
use Rattle.std.proofs.Common.{subst}
use Rattle.std.proofs.lemmas.Bool.{cases_eq, false≢true}
use Rattle.std.proofs.lemmas.List.{get_or-set_same, get_or-set_other, length-set}
use Rattle.pbd_num.specs.declared.Vec3.{Vec3}
use Rattle.pbd_world.specs.declared.parts.Particle.{Particle}
use Rattle.pbd_lanes.specs.Lane.{is_set}
use Rattle.pbd_store.specs.Gathering.{index_at, NamesApart, Scattered}
use Rattle.pbd_store.specs.Blocks.{place_of}
use Rattle.pbd_world.specs.Particles.{particle_at, no_particle, placed}
use Rattle.pbd_num.proofs.Below.{split_below}

-- a placed particle, and each other
pub placed_same : (ps : List Particle) (i : ℕ) (v : Vec3) → i < length ps
    → particle_at (placed ps i v) i ≡ record (particle_at ps i) { at = v }
placed_same ps i v h = get_or-set_same ps i (record (particle_at ps i) { at = v }) no_particle h

pub placed_other : (ps : List Particle) (i k : ℕ) (v : Vec3) → (k ≡ i → ⊥) → particle_at (placed ps i v) k ≡ particle_at ps k
placed_other ps i k v h = get_or-set_other ps i k (record (particle_at ps i) { at = v }) no_particle h

pub length-placed : (ps : List Particle) (i : ℕ) (v : Vec3) → length (placed ps i v) ≡ length ps
length-placed ps i v = length-set ps i (record (particle_at ps i) { at = v })

-- nothing yet
pub scattered_none : (is : List ℕ) (set : List Bool) (xs ys zs : List ℤ) (ps : List Particle) → Scattered 0 is set xs ys zs ps ps
scattered_none is set xs ys zs ps = record { whole = refl; lanes = λ j h. absurd (omega arith); others = λ i h. refl }

-- what holds of each set lane below j, where lane j isn't set
pub set_below : (P : ℕ → Type 0) (set : List Bool) (j : ℕ) → is_set set j ≡ false → ((k : ℕ) → k < j → IsTrue (is_set set k) → P k)
    → (k : ℕ) → k < j + 1 → IsTrue (is_set set k) → P k
set_below P set j unset h k p s = elim (split_below k j p) [
  | inl q ↦ h k q s
  | inr e ↦ absurd (false≢true (sym unset ∙ ap (is_set set) (sym e) ∙ s))
]

module _ (is : List ℕ) (set : List Bool) (xs ys zs : List ℤ) (old new : List Particle) (j : ℕ)
    (h : Scattered j is set xs ys zs old new) where
  skipped : is_set set j ≡ false → Scattered (j + 1) is set xs ys zs old new
  skipped unset = record {
    whole = h.whole;
    lanes = set_below (λ k. particle_at new (index_at is k) ≡ record (particle_at old (index_at is k)) { at = place_of xs ys zs k }) set j unset
        h.lanes;
    others = λ i f. h.others i (λ k p s e. f k (omega arith) s e);
  }

  moved : is_set set j ≡ true → index_at is j < length old → ((k : ℕ) → k < j → IsTrue (is_set set k) → index_at is k ≡ index_at is j → ⊥)
      → Scattered (j + 1) is set xs ys zs old (placed new (index_at is j) (place_of xs ys zs j))
  moved is_so within apart =
      let v = place_of xs ys zs j in
      let here : particle_at new (index_at is j) ≡ particle_at old (index_at is j) = h.others (index_at is j) (λ k p s e. apart k p s e) in
      record {
        whole = length-placed new (index_at is j) v ∙ h.whole;
        lanes = λ k p s. elim (split_below k j p) [
          | inl q ↦ placed_other new (index_at is j) (index_at is k) v (λ e. apart k q s e) ∙ h.lanes k q s
          | inr e ↦ subst (λ (m : ℕ). particle_at (placed new (index_at is j) v) (index_at is m)
              ≡ record (particle_at old (index_at is m)) { at = place_of xs ys zs m }) (sym e)
              (placed_same new (index_at is j) v (omega (arith, h.whole)) ∙ ap (λ (p : Particle). record p { at = v }) here)
        ];
        others = λ i f. placed_other new (index_at is j) i v (λ e. f j (omega arith) is_so (sym e))
            ∙ h.others i (λ k p s e. f k (omega arith) s e);
      }

-- one turn
pub scattered_more : (is : List ℕ) (set : List Bool) (xs ys zs : List ℤ) (old new : List Particle) (j n : ℕ)
    → Scattered j is set xs ys zs old new → j < n → NamesApart n is set → (IsTrue (is_set set j) → index_at is j < length old)
    → Scattered (j + 1) is set xs ys zs old (cond (is_set set j) (placed new (index_at is j) (place_of xs ys zs j)) new)
scattered_more is set xs ys zs old new j n h p apart within = by_case (is_set set j) refl where
  by_case : (b : Bool) → is_set set j ≡ b → Scattered (j + 1) is set xs ys zs old
      (cond b (placed new (index_at is j) (place_of xs ys zs j)) new)
  by_case true e = moved is set xs ys zs old new j h e (within e) (λ k q s f. apart k j q p s e f)
  by_case false e = skipped is set xs ys zs old new j h e
