-- Places of a list that are written one after another: those of the set lanes, or the first ones.
use Rattle.std.proofs.Common.{◌≡◌, ℕ, ◌+◌, ◌++◌, ◌<◌, List, length, get_or, map, replicate, slice_set, Bool, true, false, cond, IsTrue, refl, sym}
use Rattle.std.proofs.Common.{◌∙◌, ap, arith, inl, inr, subst}
use Rattle.std.proofs.lemmas.Bool.{cases_lt}
use Rattle.std.proofs.lemmas.List.{get_or-set_same, get_or-set_other, get_or_past, length-set}
use Rattle.std.proofs.lemmas.List.FromFn.{fill_by_all}
use Rattle.pbd_num.specs.declared.Vec3.{Vec3}
use Rattle.pbd_num.specs.Vectors.{zero_vector}
use Rattle.pbd_lanes.specs.Lane.{is_set}
use Rattle.pbd_world.specs.declared.parts.Particle.{Particle}
use Rattle.pbd_world.specs.Particles.{particle_at, no_particle}
use Rattle.pbd_store.specs.declared.rows.PlaceKind.{PlaceKind}
use Rattle.pbd_store.specs.declared.rows.PlaceKind.TheVariants as field
use Rattle.pbd_store.specs.Fields.{place_of_kind}
use Rattle.pbd_store.specs.Flying.{WrittenFirst}
use Rattle.pbd_store.specs.Listed.{place_at}
use Rattle.pbd_store.specs.Writing.{WrittenWhere}
use Rattle.pbd_store.proofs.Listing.{column_is, column_long}
use Rattle.pbd_store.proofs.Scattering.{set_below}
use Rattle.pbd_num.proofs.Below.{split_below}

-- nothing yet
pub written_none : (start : ℕ) (set : List Bool) (values : ℕ → Vec3) (vs : List Vec3) → WrittenWhere 0 start set values vs vs
written_none start set values vs = record { whole = refl; lanes = λ j h. absurd (omega arith); others = λ i f. refl }

module _ (start : ℕ) (set : List Bool) (values : ℕ → Vec3) (old new : List Vec3) (j : ℕ) (h : WrittenWhere j start set values old new) where
  skipped : is_set set j ≡ false → WrittenWhere (j + 1) start set values old new
  skipped unset = record {
    whole = h.whole;
    lanes = set_below (λ k. place_at new (start + k) ≡ values k) set j unset h.lanes;
    others = λ i f. h.others i (λ k p s e. f k (omega arith) s e);
  }

  put : is_set set j ≡ true → start + j < length old → WrittenWhere (j + 1) start set values old (slice_set new (start + j) (values j))
  put is_so within = record {
    whole = length-set new (start + j) (values j) ∙ h.whole;
    lanes = λ k p s. elim (split_below k j p) [
      | inl q ↦ get_or-set_other new (start + j) (start + k) (values j) zero_vector (λ e. absurd (omega arith)) ∙ h.lanes k q s
      | inr e ↦ subst (λ (m : ℕ). place_at (slice_set new (start + j) (values j)) (start + m) ≡ values m) (sym e)
          (get_or-set_same new (start + j) (values j) zero_vector (omega (arith, h.whole)))
    ];
    others = λ i f. get_or-set_other new (start + j) i (values j) zero_vector (λ e. f j (omega arith) is_so (sym e))
        ∙ h.others i (λ k p s e. f k (omega arith) s e);
  }

-- one lane more
pub written_more : (start : ℕ) (set : List Bool) (values : ℕ → Vec3) (old new : List Vec3) (j : ℕ) → WrittenWhere j start set values old new
    → (IsTrue (is_set set j) → start + j < length old) → WrittenWhere (j + 1) start set values old
    (cond (is_set set j) (slice_set new (start + j) (values j)) new)
written_more start set values old new j h within = by_case (is_set set j) refl
  where
    by_case : (b : Bool) → is_set set j ≡ b → WrittenWhere (j + 1) start set values old (cond b (slice_set new (start + j) (values j)) new)
    by_case true e = put start set values old new j h e (within e)
    by_case false e = skipped start set values old new j h e

-- ---- the first places

pub no_place : (which : PlaceKind) → place_of_kind which no_particle ≡ zero_vector
no_place field.At = refl
no_place field.Before = refl

pub first_none : (f : ℕ → Vec3) (vs : List Vec3) → WrittenFirst 0 f vs vs
first_none f vs = record { whole = refl; first = λ j lt. absurd (omega arith); others = λ j le. refl }

-- one place more
pub first_more : (n : ℕ) (f : ℕ → Vec3) (old new : List Vec3) → WrittenFirst n f old new → n < length old
    → WrittenFirst (n + 1) f old (slice_set new n (f n))
first_more n f old new h near = record {
  whole = length-set new n (f n) ∙ h.whole;
  first = λ j lt. elim (split_below j n lt) [
    | inl p ↦ get_or-set_other new n j (f n) zero_vector (λ e. absurd (omega arith)) ∙ h.first j p
    | inr e ↦ ap (place_at (slice_set new n (f n))) e ∙ get_or-set_same new n (f n) zero_vector (omega (arith, h.whole)) ∙ ap f (sym e)
  ];
  others = λ j le. get_or-set_other new n j (f n) zero_vector (λ e. absurd (omega arith)) ∙ h.others j (omega arith);
}

-- where what f gives of each particle is written over zeros, zeros are left at the end
module _ (f : Particle → Vec3) (none : f no_particle ≡ zero_vector) (ps : List Particle) (n : ℕ) (old new : List Vec3)
    (long : length old ≡ length ps + n) (zeros : (i : ℕ) → place_at old i ≡ zero_vector)
    (h : WrittenFirst (length ps) (λ j. f (particle_at ps j)) old new) where
  column : (k : ℕ) → place_at (map f ps ++ replicate n zero_vector) k ≡ f (particle_at ps k)
  column = subst (λ (z : Vec3). (k : ℕ) → get_or (map f ps ++ replicate n z) k z ≡ f (particle_at ps k)) none (column_is f ps n)

  each : (k : ℕ) → place_at new k ≡ f (particle_at ps k)
  each k = elim (cases_lt k (length ps)) [
    | inl p ↦ h.first k p
    | inr q ↦ h.others k q ∙ zeros k ∙ sym (ap f (get_or_past ps k no_particle q) ∙ none)
  ]

  pub first_all : new ≡ map f ps ++ replicate n zero_vector
  first_all = fill_by_all (λ k. f (particle_at ps k)) new (length ps + n) zero_vector (h.whole ∙ long) (λ k p. each k)
      ∙ sym (fill_by_all (λ k. f (particle_at ps k)) (map f ps ++ replicate n zero_vector) (length ps + n) zero_vector
      (column_long f ps n zero_vector) (λ k p. column k))
