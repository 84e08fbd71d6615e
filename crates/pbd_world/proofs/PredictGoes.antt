-- Attaching and predicting, and friction: where they lead the particles.
use Rattle.std.proofs.Common.{◌≡◌, refl, sym, ap, ◌∙◌, ℕ, ◌+◌, ◌-◌, ◌*◌, ◌<◌, ◌≤◌, ◌^◌, Bool, true, false, not, ◌&&◌, ◌||◌, List, [], ◌∷◌}
use Rattle.std.proofs.Common.{length, map, arith, ℤ, pos, neg_ℤ, ◌+ℤ◌, ◌*ℤ◌, ◌≤ℤ◌, unsigned_abs, subst}
use Rattle.std.specs.Prelude.{Result, Ok, Err, IfOk, IsTrue, Option, Some, None, IfSome, if◌then◌else◌, nat_le, nat_lt, ◌==◌}
use Rattle.std.specs.List.{AllByRecursion, AllZip, zip, find, list_all}
use Rattle.std.proofs.lemmas.Int.{ints}
use Rattle.std.proofs.lemmas.Bool.{and_parts, and_from, false≢true, ltb-true, ltb-false, leb-false}
use Rattle.pbd_num.specs.declared.Vec3.{Vec3}
use Rattle.pbd_num.specs.Rounding.{rdiv}
use Rattle.pbd_num.specs.Vectors.{Within, is_within, opposite}
use Rattle.pbd_num.proofs.Ranges.{within_facts, wider}
use Rattle.pbd_num.proofs.Sizes.{size-mul, pos_size}
use Rattle.pbd_num.proofs.RoundingLemmas.{size-rdiv}
use Rattle.pbd_world.specs.declared.parts.Particle.{Particle}
use Rattle.pbd_world.specs.declared.parts.Key.{Key}
use Rattle.pbd_world.specs.declared.parts.Track.{Track}
use Rattle.pbd_world.specs.Ledger.{Sum, sum_plus}
use Rattle.pbd_world.specs.Particles.{Moved, velocity}
use Rattle.pbd_world.specs.Valid.{are_valid_keys, is_valid_track, is_at_rest}
use Rattle.pbd_world.specs.World.{World, is_tracked}
use Rattle.pbd_world.specs.Tracks.{place_between, place_after, place_at, track_of, held_place}
use Rattle.pbd_world.specs.Outcomes.{one_more, each_from}
use Rattle.pbd_world.specs.Shapes.{stays, rubbed_away, slowed, rubbed}
use Rattle.pbd_world.specs.Step.{attached, damped_away, flown, if_within, predicted}
use Rattle.pbd_world.proofs.MomentumLemmas.{same_sum}
use Rattle.pbd_world.proofs.BetweenLemmas.{between, step_size, loss_size}
use Rattle.pbd_world.proofs.LedgerBounds.{IsQuiet}
use Rattle.pbd_world.proofs.KeptLemmas.{Kept, IsLimit}
use Rattle.pbd_world.proofs.ValidLemmas.{at_rest_from}
use Rattle.pbd_num.proofs.VectorSizes.{opposite_within}
use Rattle.std.proofs.Math.Bool.{or-true}

-- ---- tracks

abbrev Inside : ℤ → Vec3 → Type 0
Inside limit v = IsTrue (is_within limit v)

between_inside : (limit : ℤ) (k l : Key) (t : ℕ) → IsLimit limit → Inside limit k.place → Inside limit l.place → k.step ≤ t → t < l.step
    → Inside limit (place_between k l t)
between_inside limit k l t lim hk hl above below =
    (within_facts limit (place_between k l t) lim.low).1
    (between k.place l.place (t - k.step) (l.step - k.step) (unsigned_abs limit) (omega (arith, above, below)) (omega (arith, above, below))
    ((within_facts limit k.place lim.low).0 hk) ((within_facts limit l.place lim.low).0 hl))

either_inside : (limit : ℤ) (a b : Vec3) (x : Bool) → (x ≡ true → Inside limit a) → (x ≡ false → Inside limit b)
    → Inside limit (if x then a else b)
either_inside limit a b true ha hb = ha refl
either_inside limit a b false ha hb = hb refl

after_inside : (limit : ℤ) (k : Key) (keys : List Key) (t : ℕ) → IsLimit limit → k.step ≤ t → Inside limit k.place
    → IsTrue (are_valid_keys limit keys) → Inside limit (place_after k keys t)
after_inside limit k [] t lim le h v = h
after_inside limit k (l ∷ keys) t lim le h v =
    let p3 = and_parts (nat_le l.step 1000000 && is_within limit l.place && list_all (λ (later : Key). nat_lt l.step later.step) keys)
    (are_valid_keys limit keys) v in
    let p2 = and_parts (nat_le l.step 1000000 && is_within limit l.place)
    (list_all (λ (later : Key). nat_lt l.step later.step) keys) p3.0 in
    let p1 = and_parts (nat_le l.step 1000000) (is_within limit l.place) p2.0 in
    either_inside limit (place_between k l t) (place_after l keys t) (nat_lt t l.step)
    (λ e. between_inside limit k l t lim h p1.1 le (ltb-true t l.step e))
    (λ e. after_inside limit l keys t lim (ltb-false t l.step e) p1.1 p3.1)

track_inside : (limit : ℤ) (n : ℕ) (track : Track) (t : ℕ) → IsLimit limit → IsTrue (is_valid_track limit n track)
    → Inside limit (place_at track.keys t)
unfolding place_at
track_inside limit n track t lim v = by_keys track.keys (and_parts _ _ v).1 (and_parts _ _ (and_parts _ _ (and_parts _ _ v).0).0).1
  where
    by_keys : (keys : List Key) → IsTrue (are_valid_keys limit keys) → IsTrue (nat_le 1 (length keys)) → Inside limit (place_at keys t)
    by_keys [] h e = absurd (false≢true e)
    by_keys (k ∷ keys) h e =
        let p3 = and_parts (nat_le k.step 1000000 && is_within limit k.place && list_all (λ (later : Key). nat_lt k.step later.step) keys)
        (are_valid_keys limit keys) h in
        let p2 = and_parts (nat_le k.step 1000000 && is_within limit k.place)
        (list_all (λ (later : Key). nat_lt k.step later.step) keys) p3.0 in
        let inside = (and_parts (nat_le k.step 1000000) (is_within limit k.place) p2.0).1 in
        either_inside limit k.place (place_after k keys t) (nat_le t k.step)
        (λ e. inside)
        (λ e. after_inside limit k keys t lim (omega (arith, leb-false t k.step e)) inside p3.1)

found_valid : (limit : ℤ) (n i : ℕ) (tracks : List Track) → IsTrue (list_all (is_valid_track limit n) tracks)
    → IfSome (track_of tracks i) (λ t. IsTrue (is_valid_track limit n t))
found_valid limit n i [] h = tt
found_valid limit n i (t ∷ ts) h =
    let parts = and_parts (is_valid_track limit n t) (list_all (is_valid_track limit n) ts) h in
    valid_by_track (t.particle == i) parts.0 (found_valid limit n i ts parts.1)
  where
    valid_by_track : (b : Bool) → IsTrue (is_valid_track limit n t) → IfSome (track_of ts i) (λ u. IsTrue (is_valid_track limit n u))
        → IfSome (if b then Some t else find (λ (u : Track). u.particle == i) ts) (λ u. IsTrue (is_valid_track limit n u))
    valid_by_track true v r = v
    valid_by_track false v r = r

held_inside : (limit : ℤ) (n : ℕ) (track : Option Track) (t : ℕ) (at : Vec3) → IsLimit limit
    → IfSome track (λ u. IsTrue (is_valid_track limit n u)) → Inside limit at → Inside limit (held_place track t at)
held_inside limit n None t at lim v h = h
held_inside limit n (Some track) t at lim v h = track_inside limit n track t lim v

pub untracked : (tracks : List Track) (i : ℕ) → is_tracked tracks i ≡ false → track_of tracks i ≡ None
untracked [] i h = refl
untracked (t ∷ ts) i h = untracked_by_track (t.particle == i) h (λ k. untracked ts i k)
  where
    untracked_by_track : (b : Bool) → (b || is_tracked ts i) ≡ false → (is_tracked ts i ≡ false → track_of ts i ≡ None)
        → (if b then Some t else find (λ (u : Track). u.particle == i) ts) ≡ None
    untracked_by_track true e f = absurd (false≢true (sym e))
    untracked_by_track false e f = f e

-- ---- what a step begins with

-- a particle at the start of a step
pub record Starts (limit : ℤ) (still : Type 0) (p : Particle) (x : Moved) : Type 0 where
  pub weight : x.particle.weight ≡ p.weight
  pub held : x.particle.held ≡ p.held
  pub inside : Inside limit x.particle.at
  pub before : Inside limit x.particle.before
  pub quiet : IsQuiet still x

-- what predicting needs of a world
pub record CanPredict (w : World) : Type 0 where
  pub limit : IsLimit w.limit
  pub gravity : Inside w.limit w.gravity
  pub damping_low : pos 0 ≤ℤ w.damping
  pub damping_high : unsigned_abs w.damping ≤ 1024
  pub tracks : IsTrue (list_all (is_valid_track w.limit (length w.particles)) w.tracks)

nothing_lost : (a : ℤ) → rdiv (a *ℤ pos 0) (pos 1024) ≡ pos 0
nothing_lost a = let size = size-rdiv (a *ℤ pos 0) (pos 1024) 0 (omega arith)
    (omega (arith, size-mul a (pos 0) (unsigned_abs a) 0 (omega arith) (omega arith))) in omega (arith, ints, size)

stays_so : (s z : ℤ) → z ≡ pos 0 → s ≡ s +ℤ neg_ℤ z
stays_so s z e = omega (arith, ints, e)

undamped_sum : (s : Sum) (v : Vec3) → sum_plus s (opposite (damped_away (pos 0) v)) ≡ s
undamped_sum s v = sym (same_sum s (sum_plus s (opposite (damped_away (pos 0) v))) (stays_so s.x _ (nothing_lost v.x))
    (stays_so s.y _ (nothing_lost v.y)) (stays_so s.z _ (nothing_lost v.z)))

later : {B : Type 0} (H : Type 0) (P : B → Type 0) (o : Option B) → (H → IfSome o P) → IfSome o (λ x. H → P x)
later H P None f = tt
later H P (Some x) f = f

flown_starts : (w : World) (p : Particle) → CanPredict w → p.held ≡ false → Inside w.limit p.at → Inside w.limit p.before
    → Inside w.limit (flown w p).particle.at → Starts w.limit (w.damping ≡ pos 0) p (flown w p)
flown_starts w p can free at before to =
    let l = unsigned_abs w.limit in
    let v = velocity p in
    let speed : Within (2 * l) v = step_size p.at p.before l ((within_facts w.limit p.at can.limit.low).0 at)
    ((within_facts w.limit p.before can.limit.low).0 before) in
    let c = unsigned_abs w.damping in
    let is : w.damping ≡ pos c = pos_size w.damping can.damping_low in
    let loss : Within (2 * l) (damped_away w.damping v) = rw is (loss_size v c 1024 (2 * l) (omega arith) can.damping_high speed) in
    let pull : Within l w.gravity = (within_facts w.limit w.gravity can.limit.low).0 can.gravity in
    record {
      weight = refl;
      held = refl;
      inside = to;
      before = at;
      quiet = record {
        few = omega arith;
        small = (
          wider w.gravity l (2 ^ 30) (omega (arith, can.limit.high)) pull,
          (
            wider (opposite (damped_away w.damping v)) (2 * l) (2 ^ 30) (omega (arith, can.limit.high))
                (opposite_within (damped_away w.damping v) (2 * l) loss),
            tt,
          ),
        );
        links = λ t. refl;
        contacts = λ t. refl;
        damping = λ e t. ap (λ d. sum_plus t.damping (opposite (damped_away d v))) e ∙ undamped_sum t.damping v;
      };
    }

flown_if : (w : World) (p : Particle) (b : Bool) → CanPredict w → p.held ≡ false → Inside w.limit p.at → Inside w.limit p.before
    → (b ≡ true → Inside w.limit (flown w p).particle.at) → IfSome (if b then Some (flown w p) else None)
    (Starts w.limit (w.damping ≡ pos 0) p)
flown_if w p true can free at before to = flown_starts w p can free at before (to refl)
flown_if w p false can free at before to = tt

attached_starts : (w : World) (i : ℕ) (p : Particle) → CanPredict w → Inside w.limit p.at
    → Starts w.limit (w.damping ≡ pos 0) p (stays (attached w i p))
attached_starts w i p can at = record {
  weight = refl;
  held = refl;
  inside = held_inside w.limit (length w.particles) (track_of w.tracks i) (w.steps + 1) p.at can.limit
      (found_valid w.limit (length w.particles) i w.tracks can.tracks) at;
  before = at;
  quiet = record { few = omega arith; small = tt; links = λ t. refl; contacts = λ t. refl; damping = λ e t. refl };
}

predicted_if : (w : World) (i : ℕ) (p : Particle) (held : Bool) → CanPredict w → p.held ≡ held → Inside w.limit p.at
    → Inside w.limit p.before → IfSome (if held then Some (stays (attached w i p)) else if_within w.limit (flown w p))
    (Starts w.limit (w.damping ≡ pos 0) p)
predicted_if w i p true can e at before = attached_starts w i p can at
predicted_if w i p false can e at before = flown_if w p (is_within w.limit (flown w p).particle.at) can e at before (λ t. t)

pub predicted_starts : (w : World) (i : ℕ) (p : Particle) → CanPredict w
    → IfSome (predicted w i p) (λ x. Inside w.limit p.at × Inside w.limit p.before → Starts w.limit (w.damping ≡ pos 0) p x)
predicted_starts w i p can = later (Inside w.limit p.at × Inside w.limit p.before) (Starts w.limit (w.damping ≡ pos 0) p) (predicted w i p)
    (λ h. predicted_if w i p p.held can refl h.0 h.1)

-- ---- held particles that no track names are at rest

abbrev pub rests : List Track → ℕ → Particle → Bool
rests tracks i p = not p.held || is_tracked tracks i || is_at_rest p

pub rests_held : (tracks : List Track) (i : ℕ) (p : Particle) (track : Bool) → is_tracked tracks i ≡ track
    → (track ≡ false → IsTrue (is_at_rest p)) → rests tracks i p ≡ true
rests_held tracks i p true e h = ap (λ b. not p.held || b || is_at_rest p) e ∙ true_between (not p.held)
  where
    true_between : (b : Bool) → (b || true || is_at_rest p) ≡ true
    true_between true = refl
    true_between false = refl
rests_held tracks i p false e h = ap (λ b. not p.held || is_tracked tracks i || b) (h refl) ∙ or-true (not p.held || is_tracked tracks i)

pub rests_free : (tracks : List Track) (i : ℕ) (p : Particle) → p.held ≡ false → rests tracks i p ≡ true
rests_free tracks i p e = ap (λ b. not b || is_tracked tracks i || is_at_rest p) e

attached_rests : (w : World) (i : ℕ) (p : Particle) → rests w.tracks i (attached w i p) ≡ true
attached_rests w i p = rests_held w.tracks i (attached w i p) (is_tracked w.tracks i) refl
    (λ e. at_rest_from (attached w i p) (ap (λ (o : Option Track). held_place o (w.steps + 1) p.at) (untracked w.tracks i e)))

predicted_rests_if : (w : World) (i : ℕ) (p : Particle) (held within : Bool) → p.held ≡ held
    → IfSome (if held then Some (stays (attached w i p)) else (if within then Some (flown w p) else None))
    (λ x. rests w.tracks i x.particle ≡ true)
predicted_rests_if w i p true within e = attached_rests w i p
predicted_rests_if w i p false true e = rests_free w.tracks i (flown w p).particle e
predicted_rests_if w i p false false e = tt

predicted_rests : (w : World) (i : ℕ) (p : Particle) → IfSome (predicted w i p) (λ x. rests w.tracks i x.particle ≡ true)
predicted_rests w i p = predicted_rests_if w i p p.held (is_within w.limit (flown w p).particle.at) refl

abbrev pub all_rest : List Track → ℕ → List Particle → Bool
all_rest tracks i [] = true
all_rest tracks i (p ∷ ps) = rests tracks i p && all_rest tracks (i + 1) ps

rest_more : (tracks : List Track) (i : ℕ) (o : Option Moved) (r : Result (List Moved) ℕ) → IfSome o (λ x. rests tracks i x.particle ≡ true)
    → IfOk r (λ ms. all_rest tracks (i + 1) (map {A = Moved} {B = Particle} (λ m. m.particle) ms) ≡ true)
    → IfOk (one_more i o r) (λ ms. all_rest tracks i (map {A = Moved} {B = Particle} (λ m. m.particle) ms) ≡ true)
rest_more tracks i None r h k = tt
rest_more tracks i (Some x) (Ok ms) h k = and_from _ _ h k
rest_more tracks i (Some x) (Err n) h k = tt

pub predict_rests : (w : World) (i : ℕ) (ps : List Particle)
    → IfOk (each_from i (predicted w) ps) (λ ms. all_rest w.tracks i (map {A = Moved} {B = Particle} (λ m. m.particle) ms) ≡ true)
predict_rests w i [] = refl
predict_rests w i (p ∷ ps) = rest_more w.tracks i (predicted w i p) (each_from (i + 1) (predicted w) ps) (predicted_rests w i p)
    (predict_rests w (i + 1) ps)

-- ---- friction

-- a particle at the end of a step
pub record Stops (limit : ℤ) (p r : Particle) : Type 0 where
  pub weight : r.weight ≡ p.weight
  pub held : r.held ≡ p.held
  pub inside : Inside limit r.at
  pub before : Inside limit r.before
  pub stays : p.held ≡ true → (r.at ≡ p.at) × (r.before ≡ p.before)

stops_still : (limit : ℤ) (p q : Particle) → Kept limit p q → Inside limit p.before → Stops limit p q
stops_still limit p q k h = record {
  weight = k.weight;
  held = k.held;
  inside = k.inside;
  before = subst (Inside limit) (sym k.before) h;
  stays = λ e. (k.stays e, k.before);
}

quiet_still : (p : Particle) → IsQuiet (Unit {0}) (stays p)
quiet_still p = record { few = omega arith; small = tt; links = λ t. refl; contacts = λ t. refl; damping = λ s t. refl }

slowed_stops : (limit : ℤ) (f : ℕ) (p q : Particle) → IsLimit limit → f ≤ 256 → Kept limit p q → Inside limit p.before → q.held ≡ false
    → Stops limit p (slowed (pos f) q).particle × IsQuiet (Unit {0}) (slowed (pos f) q)
slowed_stops limit f p q lim few k h free =
    let l = unsigned_abs limit in
    let at = (within_facts limit q.at lim.low).0 k.inside in
    let before = (within_facts limit q.before lim.low).0 (subst (Inside limit) (sym k.before) h) in
    let loss : Within (2 * l) (rubbed_away (pos f) (velocity q)) =
    loss_size (velocity q) f 256 (2 * l) (omega arith) few (step_size q.at q.before l at before) in (
      record {
        weight = k.weight;
        held = k.held;
        inside = k.inside;
        before = (within_facts limit (slowed (pos f) q).particle.before lim.low).1
            (between q.before q.at f 256 l (omega arith) few before at);
        stays = λ e. absurd (false≢true (sym free ∙ k.held ∙ e));
      },
      record {
        few = omega arith;
        small = (
          wider (opposite (rubbed_away (pos f) (velocity q))) (2 * l) (2 ^ 30) (omega (arith, lim.high))
              (opposite_within (rubbed_away (pos f) (velocity q)) (2 * l) loss),
          tt,
        );
        links = λ t. refl;
        contacts = λ t. refl;
        damping = λ s t. refl;
      },
    )

rubbed_if : (limit : ℤ) (f : ℕ) (p q : Particle) (held touched : Bool) → IsLimit limit → f ≤ 256 → Kept limit p q → Inside limit p.before
    → q.held ≡ held → Stops limit p (if not held && touched then slowed (pos f) q else stays q).particle
    × IsQuiet (Unit {0}) (if not held && touched then slowed (pos f) q else stays q)
rubbed_if limit f p q true touched lim few k h e = (stops_still limit p q k h, quiet_still q)
rubbed_if limit f p q false false lim few k h e = (stops_still limit p q k h, quiet_still q)
rubbed_if limit f p q false true lim few k h e = slowed_stops limit f p q lim few k h e

rubbed_stops : (limit : ℤ) (f : ℕ) (p q : Particle) (touched : Bool) → IsLimit limit → f ≤ 256 → Kept limit p q → Inside limit p.before
    → Stops limit p (rubbed (pos f) q touched).particle × IsQuiet (Unit {0}) (rubbed (pos f) q touched)
unfolding rubbed
rubbed_stops limit f p q touched lim few k h = rubbed_if limit f p q q.held touched lim few k h refl

abbrev pub rub_all : ℤ → List Particle → List Bool → List Moved
rub_all friction qs touched = map {A = Particle × Bool} {B = Moved} (λ pair. rubbed friction pair.0 pair.1) (zip qs touched)

pub rub_stops : (limit : ℤ) (f : ℕ) (ps qs : List Particle) (touched : List Bool) → IsLimit limit → f ≤ 256 → AllZip (Kept limit) ps qs
    → AllByRecursion {X = Particle} (λ p. Inside limit p.before) ps → length touched ≡ length ps
    → AllZip (Stops limit) ps (map {A = Moved} {B = Particle} (λ m. m.particle) (rub_all (pos f) qs touched))
    × AllByRecursion (IsQuiet (Unit {0})) (rub_all (pos f) qs touched)
rub_stops limit f [] [] touched lim few z b e = (tt, tt)
rub_stops limit f [] (q ∷ qs) touched lim few z b e = absurd z
rub_stops limit f (p ∷ ps) [] touched lim few z b e = absurd z
rub_stops limit f (p ∷ ps) (q ∷ qs) [] lim few z b e = absurd (omega (arith, e))
rub_stops limit f (p ∷ ps) (q ∷ qs) (t ∷ ts) lim few z b e =
    let here = rubbed_stops limit f p q t lim few z.0 b.0 in
    let rest = rub_stops limit f ps qs ts lim few z.1 b.1 (omega (arith, e)) in
    ((here.0, rest.0), (here.1, rest.1))
