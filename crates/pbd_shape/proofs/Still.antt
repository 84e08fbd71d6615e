-- Particles that no shape moves, and that lose nothing to friction.
use Rattle.std.proofs.Common.{◌≡◌, refl, sym, ap, ◌∙◌, ℕ, zero, suc, ◌+◌, ◌<◌, ◌≤◌, ◌==◌, Bool, true, false, cond, not, ◌&&◌, List, [], ◌∷◌}
use Rattle.std.proofs.Common.{length, get_or, slice_set, arith, ℤ, pos, unsigned_abs, subst, ◌*◌, ◌^◌, ◌*ℤ◌, int_lt, IsTrue}
use Rattle.std.proofs.Common.{Some, Ok, inl, inr}
use Rattle.std.specs.List.{list_any}
use Rattle.std.proofs.lemmas.Int.{ints}
use Rattle.std.proofs.lemmas.Bool.{cases_lt, cases_Bool, false≢true, eqb-true}
use Rattle.std.proofs.lemmas.Bool.Decides.{nat_tests}
use Rattle.std.proofs.lemmas.List.{set-get_or, get_or_past}
use Rattle.std.proofs.lemmas.List.Folds.{list_any_at}
use Rattle.std.proofs.Math.Bool.{or-false}
use Rattle.pbd_num.specs.declared.Vec3.{Vec3}
use Rattle.pbd_num.specs.Rounding.{rdiv}
use Rattle.pbd_num.specs.Vectors.{Within, zero_vector, plus, minus, opposite}
use Rattle.pbd_num.proofs.Ranges.{wider}
use Rattle.pbd_store.specs.Moving.{AreInside}
use Rattle.pbd_num.proofs.VectorSizes.{plus_nothing, minus_itself, plus_zero}
use Rattle.pbd_world.specs.declared.parts.Particle.{Particle}
use Rattle.pbd_world.specs.declared.totals.Class.TheVariants as classes
use Rattle.pbd_world.specs.Ledger.{Ledger, booked}
use Rattle.pbd_world.specs.Particles.{particle_at, no_particle}
use Rattle.pbd_world.specs.Shapes.{Shape, way_through, shaped, rubbed_away}
use Rattle.pbd_world.specs.Step.{Passing, rub}
use Rattle.pbd_world.specs.Valid.{is_between}
use Rattle.pbd_shape.specs.Shaping.{all_pushed, pushed_from}
use Rattle.pbd_shape.specs.Rubbing.{rubbed_from}
use Rattle.pbd_shape.specs.Way.{starting, IsStill}
use Rattle.pbd_shape.proofs.Continuing.{shaped_to, shaped_is, one_shaped, pushed_on, pushed_all, pushed_begins, one_rubbed, rubbed_by}
use Rattle.pbd_shape.proofs.Continuing.{rubbed_on, rubbed_all, rubbed_begins}
use Rattle.pbd_shape.proofs.Steps.{loss_of, rubbed_is}

-- a cost that a test leaves out or not
pub unless_cost : (test : Bool) (old new most : ℕ) → test ≡ false → new ≤ old + most → new ≤ old + cond test 0 most
unless_cost test old new most e h = rw e h

pub where_cost : (test : Bool) (old new most : ℕ) → test ≡ true → new ≤ old + most → new ≤ old + cond test most 0
where_cost test old new most e h = rw e h

-- a move that leads nowhere leaves the total of shapes as it is
books_nothing : (t : Ledger) (made : Bool) (v : Vec3) → v ≡ zero_vector → booked t (cond made ((classes.Shape, v) ∷ []) []) ≡ t
books_nothing t true v e = (λ i. booked t ((classes.Shape, e i) ∷ []))
    ∙ (λ i. record t { shape = record { x = plus_zero t.shape.x i; y = plus_zero t.shape.y i; z = plus_zero t.shape.z i } })
books_nothing t false v e = refl

-- ---- shapes

shaped_still : (limit : ℤ) (shapes : List Shape) (p : Particle) → IsStill limit shapes p.at
    → Some (shaped_to p (starting p.at)) ≡ shaped limit shapes p
shaped_still limit shapes p h = shaped_is limit shapes p (Some (starting p.at)) (still_if_held p.held)
  where
    still_if_held : (held : Bool) → Some (starting p.at) ≡ cond held (Some (starting p.at)) (way_through limit shapes (starting p.at))
    still_if_held true = refl
    still_if_held false = sym h

module _ (limit : ℤ) (shapes : List Shape) (s : Passing)
    (flags : length s.touched ≡ length s.motion.particles) where
  one_still : (n : ℕ) → n < length s.motion.particles → IsStill limit shapes (particle_at s.motion.particles n).at
      → pushed_from limit shapes (n + 1) s ≡ pushed_from limit shapes n s
  one_still n lt h =
      let ps = s.motion.particles in
      let p = particle_at ps n in
      let x = shaped_to p (starting p.at) in
      let same : one_shaped n s x ≡ s = λ i. record {
        motion = record {
          particles = set-get_or ps n no_particle i;
          totals = books_nothing s.motion.totals (not p.held) (minus p.at p.at) (minus_itself p.at) i;
        };
        touched = (ap (λ (b : Bool). slice_set s.touched n b) (or-false (get_or s.touched n false)) ∙ set-get_or s.touched n false) i;
      } in
      ap (λ (t : Passing). pushed_from limit shapes (n + 1) t) (sym same)
      ∙ pushed_on limit shapes n s x lt (omega (arith, flags)) (shaped_still limit shapes p h)

  -- particles side by side that no shape moves
  pub pushed_still : (n k : ℕ) → ((j : ℕ) → j < k → n + j < length s.motion.particles
      → IsStill limit shapes (particle_at s.motion.particles (n + j)).at)
      → pushed_from limit shapes (n + k) s ≡ pushed_from limit shapes n s
  pushed_still n zero h = ap (λ (m : ℕ). pushed_from limit shapes m s) (omega arith)
  pushed_still n (suc k) h = ap (λ (m : ℕ). pushed_from limit shapes m s) (omega arith) ∙ last
      ∙ pushed_still n k (λ j lt. h j (omega arith))
    where
      last : pushed_from limit shapes (n + k + 1) s ≡ pushed_from limit shapes (n + k) s
      last = elim (cases_lt (n + k) (length s.motion.particles)) [
        | inl p ↦ one_still (n + k) p (h k (omega arith) p)
        | inr q ↦ pushed_all limit shapes (n + k + 1) s (omega arith) (omega (arith, flags))
            ∙ sym (pushed_all limit shapes (n + k) s q (omega (arith, flags)))
      ]

  -- where no shape moves any particle
  pub all_still : ((i : ℕ) → i < length s.motion.particles → IsStill limit shapes (particle_at s.motion.particles i).at)
      → all_pushed limit shapes s ≡ Ok s
  all_still h =
      let many = length s.motion.particles in
      sym (pushed_begins limit shapes s)
      ∙ sym (pushed_still 0 many (λ j lt within. h (0 + j) within))
      ∙ pushed_all limit shapes (0 + many) s (omega arith) (omega (arith, flags))

-- the place in a lane is in the range of the greater limit, also where there is no particle
pub lane_within : (n block j : ℕ) (limit : ℤ) (ps : List Particle) {v : Vec3} → unsigned_abs limit ≤ 2 ^ 29 → AreInside limit ps
    → v ≡ (particle_at ps (block * n + j)).at → Within (2 ^ 29) v
lane_within n block j limit ps high inside e = subst (Within (2 ^ 29)) (sym e) (elim (cases_lt (block * n + j) (length ps)) [
  | inl p ↦ wider _ (unsigned_abs limit) (2 ^ 29) high (inside.each (block * n + j) p)
  | inr q ↦ subst (λ (p : Particle). Within (2 ^ 29) p.at) (sym (get_or_past ps (block * n + j) no_particle q))
      (record { x = omega arith; y = omega arith; z = omega arith })
])

-- no shape at all
none_moves : (limit : ℤ) (shapes : List Shape) (at : Vec3) → length shapes ≡ 0 → IsStill limit shapes at
none_moves limit [] at e = refl
none_moves limit (shape ∷ shapes) at e = absurd (omega (arith, e))

pub pushed_by_none : (limit : ℤ) (shapes : List Shape) (s : Passing) → length s.touched ≡ length s.motion.particles
    → (length shapes == 0) ≡ true → all_pushed limit shapes s ≡ Ok s
pushed_by_none limit shapes s flags none = all_still limit shapes s flags
    (λ i lt. none_moves limit shapes (particle_at s.motion.particles i).at (eqb-true (length shapes) 0 none))

-- ---- friction

-- what friction takes of a particle
abbrev pub lost_at : ℤ → Passing → ℕ → Vec3
lost_at friction s i =
    let p = particle_at s.motion.particles i in
    loss_of friction (not p.held && get_or s.touched i false) p.before p.at

module _ (friction : ℤ) (s : Passing) (flags : length s.touched ≡ length s.motion.particles) where
  one_kept : (n : ℕ) → n < length s.motion.particles → lost_at friction s n ≡ zero_vector
      → rubbed_from friction (n + 1) s ≡ rubbed_from friction n s
  one_kept n lt h =
      let ps = s.motion.particles in
      let p = particle_at ps n in
      let made = not p.held && get_or s.touched n false in
      let loss = lost_at friction s n in
      let x = rubbed_by p made loss in
      let stays : x.particle ≡ p = λ i. record p { before = (ap (plus p.before) h ∙ plus_nothing p.before) i } in
      let same : one_rubbed n s x ≡ s = λ i. record s {
        motion = record {
          particles = (ap (slice_set ps n) stays ∙ set-get_or ps n no_particle) i;
          totals = books_nothing s.motion.totals made (opposite loss) (ap opposite h) i;
        };
      } in
      ap (λ (t : Passing). rubbed_from friction (n + 1) t) (sym same)
      ∙ rubbed_on friction n s x lt (omega (arith, flags)) (rubbed_is friction p (get_or s.touched n false) made loss refl refl)

  -- particles side by side that lose nothing
  pub rubbed_still : (n k : ℕ) → ((j : ℕ) → j < k → n + j < length s.motion.particles → lost_at friction s (n + j) ≡ zero_vector)
      → rubbed_from friction (n + k) s ≡ rubbed_from friction n s
  rubbed_still n zero h = ap (λ (m : ℕ). rubbed_from friction m s) (omega arith)
  rubbed_still n (suc k) h = ap (λ (m : ℕ). rubbed_from friction m s) (omega arith) ∙ last ∙ rubbed_still n k (λ j lt. h j (omega arith))
    where
      last : rubbed_from friction (n + k + 1) s ≡ rubbed_from friction (n + k) s
      last = elim (cases_lt (n + k) (length s.motion.particles)) [
        | inl p ↦ one_kept (n + k) p (h k (omega arith) p)
        | inr q ↦ rubbed_all friction (n + k + 1) s (omega arith) ∙ sym (rubbed_all friction (n + k) s q)
      ]

  none_rubbed : ((i : ℕ) → i < length s.motion.particles → lost_at friction s i ≡ zero_vector) → s.motion ≡ rub friction s
  none_rubbed h =
      let many = length s.motion.particles in
      sym (rubbed_all friction (0 + many) s (omega arith))
      ∙ rubbed_still 0 many (λ j lt within. h (0 + j) within)
      ∙ rubbed_begins friction s

-- a particle that isn't touched loses nothing
pub untouched_keeps : (friction : ℤ) (held touched : Bool) (before at : Vec3) → touched ≡ false
    → loss_of friction (not held && touched) before at ≡ zero_vector
untouched_keeps friction held touched before at e = ap (λ (b : Bool). loss_of friction (not held && b) before at) e ∙ none_lost held
  where
    none_lost : (held : Bool) → loss_of friction (not held && false) before at ≡ zero_vector
    none_lost true = refl
    none_lost false = refl

-- no friction takes nothing
takes_nothing : (v : Vec3) → rubbed_away (pos 0) v ≡ zero_vector
unfolding rdiv
takes_nothing v = λ i. record { x = none v.x i; y = none v.y i; z = none v.z i }
  where
    none : (a : ℤ) → rdiv (a *ℤ pos 0) (pos 256) ≡ pos 0
    none a = let zero_product : a *ℤ pos 0 ≡ pos 0 = omega (arith, ints) in ap (λ (n : ℤ). rdiv n (pos 256)) zero_product

smooth_keeps : (friction : ℤ) (made : Bool) (before at : Vec3) → friction ≡ pos 0 → loss_of friction made before at ≡ zero_vector
smooth_keeps friction made before at e = ap (λ (f : ℤ). loss_of f made before at) e ∙ none_lost made
  where
    none_lost : (made : Bool) → loss_of (pos 0) made before at ≡ zero_vector
    none_lost true = takes_nothing (minus at before)
    none_lost false = refl

-- where there is no friction, or no particle is touched
pub rubbed_by_none : (friction : ℤ) (s : Passing) → length s.touched ≡ length s.motion.particles
    → IsTrue (is_between (pos 0) (pos 256) friction) → (int_lt (pos 0) friction && list_any (λ t. t) s.touched) ≡ false
    → s.motion ≡ rub friction s
rubbed_by_none friction s flags part none = rubs_if_rough (int_lt (pos 0) friction) refl none
  where
    smooth : int_lt (pos 0) friction ≡ false → friction ≡ pos 0
    smooth e = grind (arith, ints, nat_tests)

    clear : list_any (λ t. t) s.touched ≡ false → (i : ℕ) → i < length s.motion.particles → get_or s.touched i false ≡ false
    clear e i lt = elim (cases_Bool (get_or s.touched i false)) [
      | inl set ↦ absurd (false≢true (sym e ∙ list_any_at (λ t. t) s.touched i false (omega (arith, flags)) set))
      | inr unset ↦ unset
    ]

    rubs_if_rough : (rough : Bool) → int_lt (pos 0) friction ≡ rough → (rough && list_any (λ t. t) s.touched) ≡ false → s.motion ≡ rub friction s
    rubs_if_rough true r e = none_rubbed friction s flags (λ i lt. untouched_keeps friction (particle_at s.motion.particles i).held
        (get_or s.touched i false) (particle_at s.motion.particles i).before (particle_at s.motion.particles i).at (clear e i lt))
    rubs_if_rough false r e = none_rubbed friction s flags (λ i lt. smooth_keeps friction
        (not (particle_at s.motion.particles i).held && get_or s.touched i false) (particle_at s.motion.particles i).before
        (particle_at s.motion.particles i).at (smooth r))
