-- One lane of a block after another.
use Rattle.std.proofs.Common.{◌≡◌, refl, sym, ap, ◌∙◌, ℕ, ◌+◌, ◌*◌, ◌^◌, ◌<◌, ◌≤◌, min, Bool, true, false, cond, not, ◌&&◌, ◌||◌, List, []}
use Rattle.std.proofs.Common.{◌∷◌, length, get_or, slice_set, arith, subst, ℤ, pos, negsuc, ◌≤ℤ◌, unsigned_abs, IsTrue, Option, Some, None}
use Rattle.std.proofs.Common.{option_map, Err, inl, inr}
use Rattle.std.proofs.lemmas.Int.{ints}
use Rattle.std.proofs.lemmas.Bool.Decides.{nat_tests}
use Rattle.std.proofs.lemmas.Bool.{cases_lt, lt-ltb}
use Rattle.std.proofs.lemmas.List.{get_or-set_same, length-set, set-get_or}
use Rattle.std.proofs.Math.Bool.{or-true, or-false}
use Rattle.pbd_num.specs.declared.Vec3.{Vec3}
use Rattle.pbd_num.specs.Vectors.{Within, zero_vector, plus, minus, opposite}
use Rattle.pbd_world.specs.declared.parts.Particle.{Particle}
use Rattle.pbd_world.specs.declared.totals.Class.TheVariants as classes
use Rattle.pbd_world.specs.Ledger.{Ledger, added, booked}
use Rattle.pbd_world.specs.Particles.{particle_at}
use Rattle.pbd_world.specs.Shapes.{Shape, Way, way_through, shaped, stays, rubbed_away, slowed, rubbed}
use Rattle.pbd_world.specs.Step.{Passing}
use Rattle.pbd_num.proofs.Sizes.{size_at_most}
use Rattle.pbd_num.proofs.VectorSizes.{plus_nothing}
use Rattle.pbd_world.specs.Valid.{is_between}
use Rattle.pbd_world.proofs.BetweenLemmas.{between}
use Rattle.pbd_lanes.specs.Lane.{is_set}
use Rattle.pbd_store.specs.Blocks.{filled_lanes, Saved}
use Rattle.pbd_store.proofs.Saving.{saved_none}
use Rattle.pbd_store.proofs.Places.{place_in, at_of, before_of, places_more, below_count}
use Rattle.pbd_shape.specs.Shaping.{pushed_from}
use Rattle.pbd_shape.specs.Rubbing.{rubbed_from}
use Rattle.pbd_shape.proofs.Continuing.{one_shaped, shaped_to, shaped_is, pushed_on, pushed_out, pushed_all, one_rubbed, rubbed_by}
use Rattle.pbd_shape.proofs.Continuing.{rubbed_on, rubbed_all}
use Rattle.pbd_store.proofs.Saves.{filled_is, saved_on, saved_as, saved_rest, saved_not_yet, saved_once}

abbrev pub passing : List Particle → Ledger → List Bool → Passing
passing ps t ts = record { motion = record { particles = ps; totals = t }; touched = ts }

-- ---- lanes

-- lane j of a block has a particle
pub record HasParticle (n block j : ℕ) (ps : List Particle) : Type 0 where
  pub lane : j < n
  pub within : block * n + j < length ps

pub has_particle : {n block j first count : ℕ} {ps : List Particle} → first ≡ block * n → count ≤ n → first + count ≤ length ps → j < count
    → HasParticle n block j ps
has_particle starts high fits h = record { lane = omega arith; within = omega arith }

-- the first j lanes of a block are all that have a particle
pub record AreAll (n block j : ℕ) (ps : List Particle) : Type 0 where
  pub high : j ≤ n
  pub last : j < n → block * n + j ≡ length ps
  pub each : (k : ℕ) → k < n → block * n + k < length ps → k < j

pub are_all : {n block j first count : ℕ} {ps : List Particle} → first ≡ block * n → count ≤ n → (count < n → first + count ≡ length ps)
    → count ≤ j → j ≤ count → AreAll n block j ps
are_all {n} {block} {j} {first} {count} {ps} starts high last low le =
    let ends : j < n → block * n + j ≡ length ps = λ h. omega (arith, last (omega arith)) in
    record {
      high = omega arith;
      last = ends;
      each = λ k h within. omega (arith, below_count k count n first (length ps) last high h (omega arith));
    }

-- ---- the shape part

-- the first j lanes of a block are pushed to their places
pub record Pushing (limit : ℤ) (shapes : List Shape) (n block j : ℕ) (places : List Vec3) (ps : List Particle)
    (t : Ledger) (ts : List Bool) (u : Ledger) (us : List Bool) : Type 0 where
  pub qs : List Particle
  pub saved : Saved j (block * n) (filled_lanes n block ps) (place_in places) (before_of n block ps) ps qs
  pub same : pushed_from limit shapes (block * n + j) (passing qs u us)
      ≡ pushed_from limit shapes (block * n) (passing ps t ts)

-- entries that are booked or not
pub booked_one : (made : Bool) (t : Ledger) (by : Vec3) → cond made (added t classes.Shape by) t
    ≡ booked t (cond made ((classes.Shape, by) ∷ []) [])
booked_one true t by = refl
booked_one false t by = refl

-- a flag that is set or not
pub flagged_one : (now : Bool) (ts : List Bool) (i : ℕ) → cond now (slice_set ts i true) ts ≡ slice_set ts i (get_or ts i false || now)
flagged_one true ts i = ap (λ (b : Bool). slice_set ts i b) (sym (or-true (get_or ts i false)))
flagged_one false ts i = sym (ap (λ (b : Bool). slice_set ts i b) (or-false (get_or ts i false)) ∙ set-get_or ts i false)

module _ {limit : ℤ} {shapes : List Shape} {n block : ℕ} {ps : List Particle} {t : Ledger} {ts : List Bool} where
  pub pushing_none : {places : List Vec3} → Pushing limit shapes n block 0 places ps t ts t ts
  pushing_none = record {
    qs = ps;
    saved = saved_none _ _ _ _ _;
    same = ap (λ (k : ℕ). pushed_from limit shapes k (passing ps t ts)) (omega arith);
  }

  module _ {j : ℕ} {places : List Vec3} {u : Ledger} {us : List Bool} (h : Pushing limit shapes n block j places ps t ts u us)
      (lane : j < n) (lt : block * n + j < length ps) where
    here : particle_at h.qs (block * n + j) ≡ particle_at ps (block * n + j)
    here = saved_not_yet (block * n) (filled_lanes n block ps) (place_in places) (before_of n block ps) ps h.qs j h.saved

    -- where the next lane leaves the limit
    pub pushing_out : None ≡ shaped limit shapes (particle_at ps (block * n + j))
        → pushed_from limit shapes (block * n) (passing ps t ts) ≡ Err (block * n + j)
    pushing_out e = sym h.same ∙ pushed_out limit shapes (block * n + j) (passing h.qs u us) (omega (arith, h.saved.whole))
        (e ∙ ap (shaped limit shapes) (sym here))

    -- where it stays
    pub pushing_on : (w : Way) (v : Ledger) (vs : List Bool) → length us ≡ length ps → j < length places
        → Some (shaped_to (particle_at ps (block * n + j)) w) ≡ shaped limit shapes (particle_at ps (block * n + j))
        → v ≡ cond (not (particle_at ps (block * n + j)).held) (added u classes.Shape (minus w.at (particle_at ps (block * n + j)).at)) u
        → vs ≡ cond w.touched (slice_set us (block * n + j) true) us
        → Pushing limit shapes n block (j + 1) (slice_set places j w.at) ps t ts v vs
    pushing_on w v vs flags room e ev evs =
        let i = block * n + j in
        let p = particle_at ps i in
        let x = shaped_to (particle_at h.qs i) w in
        let next = place_in (slice_set places j w.at) in
        let filled : is_set (filled_lanes n block ps) j ≡ true = filled_is n block j ps lane ∙ lt-ltb i (length ps) lt in
        let saved = saved_as {at' = next} (λ k q. places_more places j w.at k q) (λ k q. refl) h.saved in
        let set : next j ≡ w.at = get_or-set_same places j w.at zero_vector room in
        let old : before_of n block ps j ≡ (particle_at h.qs i).before = ap (λ (q : Particle). q.before) (sym here) in
        let put : record (particle_at h.qs i) { at = next j; before = before_of n block ps j }
        ≡ x.moved.particle = λ k. record (particle_at h.qs i) { at = set k; before = old k } in
        let totals : booked u x.moved.entries ≡ v = (λ k. booked u
        (cond (not (here k).held) ((classes.Shape, minus w.at (here k).at) ∷ []) []))
        ∙ sym (booked_one (not p.held) u (minus w.at p.at)) ∙ sym ev in
        let touched : slice_set us i (get_or us i false || w.touched) ≡ vs = sym (flagged_one w.touched us i) ∙ sym evs in
        let one : pushed_from limit shapes (i + 1) (one_shaped i (passing h.qs u us) x)
        ≡ pushed_from limit shapes i (passing h.qs u us) =
        pushed_on limit shapes i (passing h.qs u us) x (omega (arith, h.saved.whole)) (omega (arith, flags))
        (ap (λ (q : Particle). Some (shaped_to q w)) here ∙ e ∙ ap (shaped limit shapes) (sym here)) in
        record {
          qs = slice_set h.qs i x.moved.particle;
          saved = subst (λ (q : Particle). Saved (j + 1) (block * n) (filled_lanes n block ps) next (before_of n block ps) ps
              (slice_set h.qs i q)) put (saved_on (block * n) (filled_lanes n block ps) next
              (before_of n block ps) ps h.qs j saved filled lt);
          same = (λ k. pushed_from limit shapes (block * n + (j + 1))
              (passing (slice_set h.qs i x.moved.particle) (sym totals k) (sym touched k)))
              ∙ ap (λ (m : ℕ). pushed_from limit shapes m (one_shaped i (passing h.qs u us) x)) (omega arith)
              ∙ one ∙ h.same;
        }

  -- once all lanes that have a particle are pushed, whatever has their places is pushed
  pub pushing_all : {j : ℕ} {places : List Vec3} {u : Ledger} {us : List Bool} → Pushing limit shapes n block j places ps t ts u us
      → length us ≡ length ps → j ≤ n → (j < n → block * n + j ≡ length ps)
      → (qs : List Particle) → Saved n (block * n) (filled_lanes n block ps) (place_in places) (before_of n block ps) ps qs
      → pushed_from limit shapes (block * n + n) (passing qs u us)
      ≡ pushed_from limit shapes (block * n) (passing ps t ts)
  pushing_all {j} {places} {u} {us} h flags le last qs saved = elim (cases_lt j n) [
    | inl p ↦ (let whole : block * n + j ≡ length ps = last p in
        let mine = saved_rest (block * n) (filled_lanes n block ps) (place_in places) (before_of n block ps) ps h.qs j n
        (omega arith) le h.saved in
        let both : qs ≡ h.qs = saved_once (block * n) (filled_lanes n block ps) (place_in places)
        (before_of n block ps) ps n qs h.qs saved mine in
        ap (λ (rs : List Particle). pushed_from limit shapes (block * n + n) (passing rs u us)) both
        ∙ pushed_all limit shapes (block * n + n) (passing h.qs u us) (omega (arith, h.saved.whole)) (omega (arith, flags))
        ∙ sym (pushed_all limit shapes (block * n + j) (passing h.qs u us) (omega (arith, h.saved.whole)) (omega (arith, flags)))
        ∙ h.same)
    | inr p ↦ (let whole : j ≡ n = omega arith in
        let mine = subst (λ (m : ℕ). Saved m (block * n) (filled_lanes n block ps) (place_in places) (before_of n block ps) ps h.qs) whole
        h.saved in
        let both : qs ≡ h.qs = saved_once (block * n) (filled_lanes n block ps) (place_in places)
        (before_of n block ps) ps n qs h.qs saved mine in
        ap (λ (rs : List Particle). pushed_from limit shapes (block * n + n) (passing rs u us)) both
        ∙ ap (λ (m : ℕ). pushed_from limit shapes (block * n + m) (passing h.qs u us)) (sym whole)
        ∙ h.same)
  ]

-- ---- what the code holds of a lane, and of the particle in it

pub way_is : {l limit : ℤ} {held : Bool} {at : Vec3} (shapes : List Shape) (p : Particle) {o : Option Way} → l ≡ limit → held ≡ p.held
    → at ≡ p.at → o ≡ cond held (Some (record { at = at; touched = false })) (way_through l shapes (record { at = at; touched = false }))
    → option_map (shaped_to p) o ≡ shaped limit shapes p
way_is {l} {limit} shapes p {o} el eh ea e = shaped_is limit shapes p o
    (e ∙ (λ i. cond (eh i) (Some (record { at = ea i; touched = false }))
    (way_through (el i) shapes (record { at = ea i; touched = false }))))

pub flagged_length : (now : Bool) (ts : List Bool) (i : ℕ) → length (cond now (slice_set ts i true) ts) ≡ length ts
flagged_length true ts i = length-set ts i true
flagged_length false ts i = refl

-- ---- blocks

pub no_block : (n : ℕ) → 0 * n ≡ 0
no_block n = omega arith

pub room_enough : (s len : ℕ) → len ≤ 65536 → 2 ^ 120 + min s len * 2 ^ 31 ≤ 2 ^ 125
room_enough s len h = omega arith

-- ---- friction

-- the first j lanes of a block are rubbed, and have come to their places before
pub record Rubbing (friction : ℤ) (n block j : ℕ) (places : List Vec3) (ps : List Particle) (t : Ledger) (ts : List Bool)
    (u : Ledger) : Type 0 where
  pub qs : List Particle
  pub saved : Saved j (block * n) (filled_lanes n block ps) (at_of n block ps) (place_in places) ps qs
  pub same : rubbed_from friction (block * n + j) (passing qs u ts) ≡ rubbed_from friction (block * n) (passing ps t ts)

-- the part that friction takes
pub part_low : (friction : ℤ) → IsTrue (is_between (pos 0) (pos 256) friction) → pos 0 ≤ℤ friction
part_low friction h = grind (arith, ints, nat_tests)

pub part_high : (friction : ℤ) → IsTrue (is_between (pos 0) (pos 256) friction) → friction ≤ℤ pos 256
part_high friction h = grind (arith, ints, nat_tests)

pub part_size : (friction : ℤ) → IsTrue (is_between (pos 0) (pos 256) friction) → unsigned_abs friction ≤ 256
part_size friction h = size_at_most friction 256 (part_low friction h) (part_high friction h)

-- what a particle loses, or nothing
abbrev pub loss_of : ℤ → Bool → Vec3 → Vec3 → Vec3
loss_of friction made before at = cond made (rubbed_away friction (minus at before)) zero_vector

pub rubbed_is : (friction : ℤ) (p : Particle) (touched made : Bool) (loss : Vec3) → made ≡ (not p.held && touched)
    → loss ≡ loss_of friction made p.before p.at → rubbed_by p made loss ≡ rubbed friction p touched
unfolding rubbed
rubbed_is friction p touched made loss em el = (λ i. rubbed_by p (em i) ((el ∙ ap (λ (b : Bool). loss_of friction b p.before p.at) em) i))
    ∙ rubbed_if (not p.held && touched)
  where
    rubbed_if : (b : Bool) → rubbed_by p b (loss_of friction b p.before p.at) ≡ cond b (slowed friction p) (stays p)
    rubbed_if true = refl
    rubbed_if false = ap (λ (v : Vec3). record { particle = record p { before = v }; entries = [] }) (plus_nothing p.before)

-- a place before stays within a bound
pub loss_within : (friction : ℤ) (made : Bool) (before at : Vec3) (b : ℕ) → pos 0 ≤ℤ friction → friction ≤ℤ pos 256 → Within b before
    → Within b at → Within b (plus before (loss_of friction made before at))
loss_within (negsuc f) made before at b low high h k = absurd (omega (arith, ints))
loss_within (pos f) true before at b low high h k = between before at f 256 b (omega arith) (omega (arith, ints)) h k
loss_within (pos f) false before at b low high h k = subst (Within b) (sym (plus_nothing before)) h

module _ {friction : ℤ} {n block : ℕ} {ps : List Particle} {t : Ledger} {ts : List Bool} where
  pub rubbing_none : {places : List Vec3} → Rubbing friction n block 0 places ps t ts t
  rubbing_none = record {
    qs = ps;
    saved = saved_none _ _ _ _ _;
    same = ap (λ (k : ℕ). rubbed_from friction k (passing ps t ts)) (omega arith);
  }

  -- one lane more
  pub rubbing_on : {j : ℕ} {places : List Vec3} {u : Ledger} → Rubbing friction n block j places ps t ts u → j < n
      → block * n + j < length ps → length ts ≡ length ps → j < length places
      → (made : Bool) (loss v : Vec3) (w : Ledger) → made ≡ (not (particle_at ps (block * n + j)).held && get_or ts (block * n + j) false)
      → loss ≡ loss_of friction made (particle_at ps (block * n + j)).before (particle_at ps (block * n + j)).at
      → v ≡ plus (particle_at ps (block * n + j)).before loss
      → w ≡ cond made (added u classes.Shape (opposite loss)) u
      → Rubbing friction n block (j + 1) (slice_set places j v) ps t ts w
  rubbing_on {j} {places} {u} h lane lt flags room made loss v w em el ev ew =
      let i = block * n + j in
      let here : particle_at h.qs i ≡ particle_at ps i = saved_not_yet (block * n) (filled_lanes n block ps) (at_of n block ps)
      (place_in places) ps h.qs j h.saved in
      let x = rubbed_by (particle_at h.qs i) made loss in
      let next = place_in (slice_set places j v) in
      let filled : is_set (filled_lanes n block ps) j ≡ true = filled_is n block j ps lane ∙ lt-ltb i (length ps) lt in
      let saved = saved_as {before' = next} (λ k q. refl) (λ k q. places_more places j v k q) h.saved in
      let set : next j ≡ plus (particle_at h.qs i).before loss = get_or-set_same places j v zero_vector room ∙ ev
      ∙ ap (λ (q : Particle). plus q.before loss) (sym here) in
      let old : at_of n block ps j ≡ (particle_at h.qs i).at = ap (λ (q : Particle). q.at) (sym here) in
      let put : record (particle_at h.qs i) { at = at_of n block ps j; before = next j }
      ≡ x.particle = λ k. record (particle_at h.qs i) { at = old k; before = set k } in
      let totals : booked u x.entries ≡ w = sym (booked_one made u (opposite loss)) ∙ sym ew in
      let is : x ≡ rubbed friction (particle_at h.qs i) (get_or ts i false) =
      rubbed_is friction (particle_at h.qs i) (get_or ts i false) made loss
      (em ∙ ap (λ (q : Particle). not q.held && get_or ts i false) (sym here))
      (el ∙ ap (λ (q : Particle). loss_of friction made q.before q.at) (sym here)) in
      let one : rubbed_from friction (i + 1) (one_rubbed i (passing h.qs u ts) x)
      ≡ rubbed_from friction i (passing h.qs u ts) = rubbed_on friction i (passing h.qs u ts) x (omega (arith, h.saved.whole))
      (omega (arith, flags)) is in
      record {
        qs = slice_set h.qs i x.particle;
        saved = subst (λ (q : Particle). Saved (j + 1) (block * n) (filled_lanes n block ps) (at_of n block ps) next ps
            (slice_set h.qs i q)) put (saved_on (block * n) (filled_lanes n block ps) (at_of n block ps) next ps h.qs j saved filled lt);
        same = (λ k. rubbed_from friction (block * n + (j + 1)) (passing (slice_set h.qs i x.particle) (sym totals k) ts))
            ∙ ap (λ (m : ℕ). rubbed_from friction m (one_rubbed i (passing h.qs u ts) x)) (omega arith)
            ∙ one ∙ h.same;
      }

  -- once all lanes that have a particle are rubbed, whatever has their places before is rubbed
  pub rubbing_all : {j : ℕ} {places : List Vec3} {u : Ledger} → Rubbing friction n block j places ps t ts u → j ≤ n
      → (j < n → block * n + j ≡ length ps)
      → (qs : List Particle) → Saved n (block * n) (filled_lanes n block ps) (at_of n block ps) (place_in places) ps qs
      → rubbed_from friction (block * n + n) (passing qs u ts) ≡ rubbed_from friction (block * n) (passing ps t ts)
  rubbing_all {j} {places} {u} h le last qs saved = elim (cases_lt j n) [
    | inl p ↦ (let whole : block * n + j ≡ length ps = last p in
        let mine = saved_rest (block * n) (filled_lanes n block ps) (at_of n block ps) (place_in places) ps h.qs j n
        (omega arith) le h.saved in
        let both : qs ≡ h.qs = saved_once (block * n) (filled_lanes n block ps) (at_of n block ps)
        (place_in places) ps n qs h.qs saved mine in
        ap (λ (rs : List Particle). rubbed_from friction (block * n + n) (passing rs u ts)) both
        ∙ rubbed_all friction (block * n + n) (passing h.qs u ts) (omega (arith, h.saved.whole))
        ∙ sym (rubbed_all friction (block * n + j) (passing h.qs u ts) (omega (arith, h.saved.whole)))
        ∙ h.same)
    | inr p ↦ (let whole : j ≡ n = omega arith in
        let mine = subst (λ (m : ℕ). Saved m (block * n) (filled_lanes n block ps) (at_of n block ps) (place_in places) ps h.qs) whole
        h.saved in
        let both : qs ≡ h.qs = saved_once (block * n) (filled_lanes n block ps) (at_of n block ps)
        (place_in places) ps n qs h.qs saved mine in
        ap (λ (rs : List Particle). rubbed_from friction (block * n + n) (passing rs u ts)) both
        ∙ ap (λ (m : ℕ). rubbed_from friction (block * n + m) (passing h.qs u ts)) (sym whole)
        ∙ h.same)
  ]
