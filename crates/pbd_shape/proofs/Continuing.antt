-- The shape part and friction, from one particle on.
use Rattle.std.proofs.Common.{◌≡◌, refl, sym, ap, ◌∙◌, ℕ, ◌+◌, ◌<◌, ◌≤◌, Bool, true, false, cond, not, ◌||◌, List, [], ◌∷◌, ◌++◌, length}
use Rattle.std.proofs.Common.{get_or, take, drop, map, slice_set, arith, ℤ, Option, Some, None, Result, Ok, Err, option_map, append_assoc}
use Rattle.std.specs.Prelude.{zip, fold}
use Rattle.std.proofs.lemmas.List.{at_drop_more, at_drop_all, take_more_set, take_all, drop-set-lt, append-nil}
use Rattle.pbd_num.specs.declared.Vec3.{Vec3}
use Rattle.pbd_num.specs.Vectors.{minus, plus, opposite}
use Rattle.pbd_world.specs.declared.parts.Particle.{Particle}
use Rattle.pbd_world.specs.declared.totals.Class.TheVariants as classes
use Rattle.pbd_world.specs.Outcomes.{◌>>=◌, one_more, each_from}
use Rattle.pbd_world.specs.Ledger.{Ledger, booked}
use Rattle.pbd_world.specs.Particles.{Motion, Moved, particle_at, no_particle}
use Rattle.pbd_world.specs.Shapes.{Shape, Way, Shaped, way_through, still, shaped_by, shaped, rubbed}
use Rattle.pbd_world.specs.Step.{Passing, rub}
use Rattle.pbd_shape.specs.Shaping.{all_pushed, shaped_after, pushed_from}
use Rattle.pbd_shape.specs.Rubbing.{rubbed_from}

-- ---- lists of which one place more is set

-- what is done so far, and what is left behind it
front_more : {A : Type 0} (xs : List A) (n : ℕ) (x : A) (ys : List A) → n < length xs
    → take (n + 1) (slice_set xs n x) ++ ys ≡ take n xs ++ (x ∷ ys)
front_more xs n x ys h = ap (λ (zs : List _). zs ++ ys) (take_more_set xs n x h) ∙ append_assoc (take n xs) (x ∷ []) ys

abbrev either : List (Bool × Bool) → List Bool
either pairs = map {A = Bool × Bool} {B = Bool} (λ pair. pair.0 || pair.1) pairs

flags_more : (ts : List Bool) (n : ℕ) (now : Bool) (us : List Bool) → n < length ts
    → take (n + 1) (slice_set ts n (get_or ts n false || now)) ++ either (zip (drop (n + 1) (slice_set ts n (get_or ts n false || now))) us)
    ≡ take n ts ++ either (zip (drop n ts) (now ∷ us))
flags_more ts n now us h =
    let b = get_or ts n false || now in
    ap (λ (zs : List Bool). take (n + 1) (slice_set ts n b) ++ either (zip zs us)) (drop-set-lt (n + 1) ts n b (omega arith))
    ∙ front_more ts n b (either (zip (drop (n + 1) ts) us)) h
    ∙ sym (at_drop_more (λ (zs : List Bool). take n ts ++ either (zip zs (now ∷ us))) ts n false h)

-- ---- the shape part

-- one particle more is shaped
abbrev pub one_shaped : ℕ → Passing → Shaped → Passing
one_shaped n s x = record {
  motion = record { particles = slice_set s.motion.particles n x.moved.particle; totals = booked s.motion.totals x.moved.entries };
  touched = slice_set s.touched n (get_or s.touched n false || x.touched);
}

after_more : (n : ℕ) (s : Passing) (x : Shaped) (ss : List Shaped) → n < length s.motion.particles → n < length s.touched
    → shaped_after (n + 1) (one_shaped n s x) ss ≡ shaped_after n s (x ∷ ss)
after_more n s x ss h k =
    let places = map {A = Moved} {B = Particle} (λ m. m.particle) (map {A = Shaped} {B = Moved} (λ x. x.moved) ss) in
    let flags = map {A = Shaped} {B = Bool} (λ x. x.touched) ss in
    λ i. record {
      motion = record {
        particles = front_more s.motion.particles n x.moved.particle places h i;
        totals = fold {A = Moved} {B = Ledger} (λ u m. booked u m.entries) (booked s.motion.totals x.moved.entries)
            (map {A = Shaped} {B = Moved} (λ x. x.moved) ss);
      };
      touched = flags_more s.touched n x.touched flags k i;
    }

module _ (limit : ℤ) (shapes : List Shape) where
  abbrev way : Particle → Option Shaped
  way p = shaped limit shapes p

  -- the first of what is left
  first : (n : ℕ) (s : Passing) → n < length s.motion.particles
      → pushed_from limit shapes n s ≡ (one_more n (way (particle_at s.motion.particles n))
      (each_from (n + 1) (λ i p. way p) (drop (n + 1) s.motion.particles)) >>= λ ss. Ok (shaped_after n s ss))
  unfolding pushed_from
  first n s h = at_drop_more (λ (ps : List Particle). each_from n (λ i p. way p) ps >>= λ ss. Ok (shaped_after n s ss)) s.motion.particles n
      no_particle h

  -- where it stays within the limit
  pub pushed_on : (n : ℕ) (s : Passing) (x : Shaped) → n < length s.motion.particles → n < length s.touched
      → Some x ≡ way (particle_at s.motion.particles n) → pushed_from limit shapes (n + 1) (one_shaped n s x)
      ≡ pushed_from limit shapes n s
  unfolding pushed_from
  pushed_on n s x h k e =
      let ps = s.motion.particles in
      let rest = each_from (n + 1) (λ i p. way p) (drop (n + 1) ps) in
      let keeps : pushed_from limit shapes (n + 1) (one_shaped n s x)
      ≡ (rest >>= λ ss. Ok (shaped_after (n + 1) (one_shaped n s x) ss)) =
      ap (λ (qs : List Particle). each_from (n + 1) (λ i p. way p) qs >>= λ ss. Ok (shaped_after (n + 1) (one_shaped n s x) ss))
      (drop-set-lt (n + 1) ps n x.moved.particle (omega arith)) in
      keeps ∙ one_more_by rest ∙ ap (λ (o : Option Shaped). one_more n o rest >>= λ ss. Ok (shaped_after n s ss)) e ∙ sym (first n s h)
    where
      one_more_by : (r : Result (List Shaped) ℕ) → (r >>= λ ss. Ok (shaped_after (n + 1) (one_shaped n s x) ss))
          ≡ (one_more n (Some x) r >>= λ ss. Ok (shaped_after n s ss))
      one_more_by (Ok ss) = ap Ok (after_more n s x ss h k)
      one_more_by (Err m) = refl

  -- where it leaves
  pub pushed_out : (n : ℕ) (s : Passing) → n < length s.motion.particles → None ≡ way (particle_at s.motion.particles n)
      → pushed_from limit shapes n s ≡ Err n
  pushed_out n s h e = first n s h ∙ ap (λ (o : Option Shaped).
      one_more n o (each_from (n + 1) (λ i p. way p) (drop (n + 1) s.motion.particles)) >>= λ ss. Ok (shaped_after n s ss)) (sym e)

  -- where none is left
  pub pushed_all : (n : ℕ) (s : Passing) → length s.motion.particles ≤ n → length s.touched ≤ n
      → pushed_from limit shapes n s ≡ Ok s
  unfolding pushed_from
  pushed_all n s h k =
      let ps = s.motion.particles in
      at_drop_all (λ (qs : List Particle). each_from n (λ i p. way p) qs >>= λ ss. Ok (shaped_after n s ss)) ps n h
      ∙ (λ i. Ok (record {
        motion = record { particles = (append-nil (take n ps) ∙ take_all n ps h) i; totals = s.motion.totals };
        touched = (at_drop_all (λ (ts : List Bool). take n s.touched ++ either (zip ts [])) s.touched n k ∙ append-nil (take n s.touched)
            ∙ take_all n s.touched k) i;
      }))

  pub pushed_begins : (s : Passing) → pushed_from limit shapes 0 s ≡ all_pushed limit shapes s
  unfolding pushed_from
  pushed_begins s = refl

-- a particle after its way
abbrev pub shaped_to : Particle → Way → Shaped
shaped_to p w = record {
  moved = record { particle = record p { at = w.at }; entries = cond (not p.held) ((classes.Shape, minus w.at p.at) ∷ []) [] };
  touched = w.touched;
}

free_to : (p : Particle) (o : Option Way) → p.held ≡ false → option_map (shaped_to p) o ≡ option_map (shaped_by p) o
free_to p None e = refl
free_to p (Some w) e = ap (λ (held : Bool). Some (record {
  moved =
      record { particle = record p { at = w.at }; entries = cond (not held) ((classes.Shape, minus w.at p.at) ∷ []) [] };
  touched = w.touched;
})) e

pub shaped_is : (limit : ℤ) (shapes : List Shape) (p : Particle) (o : Option Way)
    → o ≡ cond p.held (Some (record { at = p.at; touched = false })) (way_through limit shapes (record { at = p.at; touched = false }))
    → option_map (shaped_to p) o ≡ shaped limit shapes p
unfolding shaped
shaped_is limit shapes p o e = ap (option_map (shaped_to p)) e ∙ shaped_if_held p.held refl
  where
    shaped_if_held : (held : Bool) → p.held ≡ held → option_map (shaped_to p)
        (cond held (Some (record { at = p.at; touched = false })) (way_through limit shapes (record { at = p.at; touched = false })))
        ≡ cond held (Some (still p)) (option_map (shaped_by p) (way_through limit shapes (record { at = p.at; touched = false })))
    shaped_if_held true h = ap (λ (b : Bool). Some (record {
      moved = record {
        particle = p;
        entries = cond (not b) ((classes.Shape, minus p.at p.at) ∷ []) [];
      };
      touched = false;
    })) h
    shaped_if_held false h = free_to p (way_through limit shapes (record { at = p.at; touched = false })) h

-- ---- friction

abbrev rubs : ℤ → List (Particle × Bool) → List Moved
rubs friction pairs = map {A = Particle × Bool} {B = Moved} (λ pair. rubbed friction pair.0 pair.1) pairs

-- particles with moves, behind those that are done
abbrev behind : List Particle → Ledger → List Moved → Motion
behind qs t ms = record {
  particles = qs ++ map {A = Moved} {B = Particle} (λ m. m.particle) ms;
  totals = fold {A = Moved} {B = Ledger} (λ u m. booked u m.entries) t ms;
}

-- one particle more is rubbed
abbrev pub one_rubbed : ℕ → Passing → Moved → Passing
one_rubbed n s x = record s {
  motion = record {
    particles = slice_set s.motion.particles n x.particle;
    totals = booked s.motion.totals x.entries;
  };
}

pub rubbed_on : (friction : ℤ) (n : ℕ) (s : Passing) (x : Moved) → n < length s.motion.particles → n < length s.touched
    → x ≡ rubbed friction (particle_at s.motion.particles n) (get_or s.touched n false)
    → rubbed_from friction (n + 1) (one_rubbed n s x) ≡ rubbed_from friction n s
unfolding rubbed_from
rubbed_on friction n s x h k e =
    let ps = s.motion.particles in
    let ts = s.touched in
    let rest = rubs friction (zip (drop (n + 1) ps) (drop (n + 1) ts)) in
    let left : rubs friction (zip (drop (n + 1) (slice_set ps n x.particle)) (drop (n + 1) ts))
    ≡ rest = ap (λ (qs : List Particle). rubs friction (zip qs (drop (n + 1) ts))) (drop-set-lt (n + 1) ps n x.particle (omega arith)) in
    let firsts : rubs friction (zip (drop n ps) (drop n ts)) ≡ rubbed friction (particle_at ps n) (get_or ts n false) ∷ rest =
    at_drop_more (λ (qs : List Particle). rubs friction (zip qs (drop n ts))) ps n no_particle h
    ∙ at_drop_more (λ (us : List Bool). rubs friction (zip (particle_at ps n ∷ drop (n + 1) ps) us)) ts n false k in
    let one : x ∷ rest ≡ rubs friction (zip (drop n ps) (drop n ts)) = ap (λ (m : Moved). m ∷ rest) e ∙ sym firsts in
    ap (behind (take (n + 1) (slice_set ps n x.particle)) (booked s.motion.totals x.entries)) left
    ∙ (λ i. record {
      particles = front_more ps n x.particle (map {A = Moved} {B = Particle} (λ m. m.particle) rest) h i;
      totals = (behind [] s.motion.totals (x ∷ rest)).totals;
    })
    ∙ ap (behind (take n ps) s.motion.totals) one

pub rubbed_all : (friction : ℤ) (n : ℕ) (s : Passing) → length s.motion.particles ≤ n → rubbed_from friction n s ≡ s.motion
unfolding rubbed_from
rubbed_all friction n s h =
    let ps = s.motion.particles in
    at_drop_all (λ (qs : List Particle). behind (take n ps) s.motion.totals (rubs friction (zip qs (drop n s.touched)))) ps n h
    ∙ (λ i. record { particles = (append-nil (take n ps) ∙ take_all n ps h) i; totals = s.motion.totals })

pub rubbed_begins : (friction : ℤ) (s : Passing) → rubbed_from friction 0 s ≡ rub friction s
unfolding rubbed_from
rubbed_begins friction s = refl

-- a particle after its loss
abbrev pub rubbed_by : Particle → Bool → Vec3 → Moved
rubbed_by p rubs loss = record {
  particle = record p { before = plus p.before loss };
  entries = cond rubs ((classes.Shape, opposite loss) ∷ []) [];
}
