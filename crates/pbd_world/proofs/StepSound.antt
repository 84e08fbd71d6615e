-- A step leads from a sound world to a sound one of the same scene.
use Rattle.std.proofs.Common.{◌≡◌, refl, sym, ap, ◌∙◌, ℕ, ◌+◌, ◌*◌, ◌<◌, ◌≤◌, ◌^◌, Bool, true, false, not, ◌||◌, List, [], ◌∷◌, length, map}
use Rattle.std.proofs.Common.{arith, ℤ, pos, unsigned_abs, subst}
use Rattle.std.specs.Prelude.{Result, Ok, Err, IfOk, IsTrue, nat_le, nat_lt, if◌then◌else◌}
use Rattle.std.specs.List.{AllByRecursion, AllZip, list_all, enumerate_from}
use Rattle.std.proofs.lemmas.Bool.{and_parts, and_from, ltb-false, leb-true}
use Rattle.pbd_num.specs.declared.Vec3.{Vec3}
use Rattle.pbd_num.specs.Vectors.{is_within}
use Rattle.pbd_num.proofs.Sizes.{pos_size}
use Rattle.pbd_world.specs.declared.parts.Particle.{Particle}
use Rattle.pbd_world.specs.declared.parts.Track.{Track}
use Rattle.pbd_world.specs.declared.command.Phase.TheVariants as phases
use Rattle.pbd_world.specs.declared.command.Refusal.TheVariants.{TooManyContacts}
use Rattle.pbd_world.specs.Particles.{Motion, Moved, all_moved}
use Rattle.pbd_world.specs.Momentum.{IsBalanced}
use Rattle.pbd_world.specs.Valid.{is_valid_particle, is_valid_link, is_at_rest}
use Rattle.pbd_world.specs.World.{World, parts_of, is_tracked, IsSound, unchanging, AreOfOneScene}
use Rattle.pbd_world.specs.Outcomes.{◌>>=◌, with_fault, repeated, each_from}
use Rattle.pbd_world.specs.Bonds.{link_bond}
use Rattle.pbd_world.specs.Contacts.{contacts_of}
use Rattle.pbd_world.specs.Step.{predicted, predict, Passing, untouched, leaves, pass, rub, tear, settled, after_contacts, step}
use Rattle.pbd_world.proofs.KeepingOn.{bind-keeps, fault-keeps, each-keeps, length-mapped, length-zipped, zip-weaker}
use Rattle.pbd_world.proofs.StepBalance.{AreEnds, ArePair, contact-pairs, IsReady, step-ready}
use Rattle.pbd_world.proofs.CommandBalance.{sound-ready}
use Rattle.pbd_world.proofs.LedgerBounds.{IsQuiet, all_booked, bounded_weaker, moved_bounded, moved_links, moved_contacts, moved_damping}
use Rattle.pbd_world.proofs.KeptLemmas.{Kept, Goes}
use Rattle.pbd_world.proofs.CountingOn.{ok_weaker, repeat-counts}
use Rattle.pbd_world.proofs.PartsGo.{PassGoes, pass_weaker, pass_goes}
use Rattle.pbd_world.proofs.PredictGoes.{Starts, CanPredict, predicted_starts, rests, all_rest, predict_rests, Stops, rub_all, rub_stops}
use Rattle.pbd_world.proofs.SameShape.{all_unlive, still_formed, torn_same, all_blank, weights_same, have_weight, tracked_held}
use Rattle.pbd_world.proofs.WorldParts.{formed, numbers_of, limit_of, IsFit, all_fit}

-- ---- the start

-- what the moves of predicting give, particle by particle
starts_list : (limit : ℤ) (still : Type 0) (ps : List Particle) (ms : List Moved) → AllByRecursion (IsFit limit) ps
    → AllZip (λ p x. IsTrue (is_within limit p.at) × IsTrue (is_within limit p.before) → Starts limit still p x) ps ms
    → AllZip (Starts limit still) ps ms
starts_list limit still [] [] f z = tt
starts_list limit still [] (m ∷ ms) f z = absurd z
starts_list limit still (p ∷ ps) [] f z = absurd z
starts_list limit still (p ∷ ps) (m ∷ ms) f z = (z.0 (f.0.at, f.0.before), starts_list limit still ps ms f.1 z.1)

started : (limit : ℤ) (still : Type 0) (ps : List Particle) (ms : List Moved) → AllZip (Starts limit still) ps ms
    → AllByRecursion (IsQuiet still) ms × AllZip (Kept limit) (map {A = Moved} {B = Particle} (λ m. m.particle) ms)
    (map {A = Moved} {B = Particle} (λ m. m.particle) ms) × AllByRecursion {X = Particle} (λ p. IsTrue (is_within limit p.before))
    (map {A = Moved} {B = Particle} (λ m. m.particle) ms)
started limit still [] [] z = (tt, tt, tt)
started limit still [] (m ∷ ms) z = absurd z
started limit still (p ∷ ps) [] z = absurd z
started limit still (p ∷ ps) (m ∷ ms) z =
    let rest = started limit still ps ms z.1 in (
      (z.0.quiet, rest.0),
      (record { weight = refl; held = refl; before = refl; inside = z.0.inside; stays = λ e. refl }, rest.1),
      (z.0.before, rest.2),
    )

-- from the start of a step to its end: the same weight and hold, and both places within the limit
pub record Steps (limit : ℤ) (p r : Particle) : Type 0 where
  pub weight : r.weight ≡ p.weight
  pub held : r.held ≡ p.held
  pub inside : IsTrue (is_within limit r.at)
  pub before : IsTrue (is_within limit r.before)

whole_way : (limit : ℤ) (still : Type 0) (ps : List Particle) (ms : List Moved) (rs : List Particle) → AllZip (Starts limit still) ps ms
    → AllZip (Stops limit) (map {A = Moved} {B = Particle} (λ m. m.particle) ms) rs → AllZip (Steps limit) ps rs
whole_way limit still [] [] [] z y = tt
whole_way limit still [] [] (r ∷ rs) z y = absurd y
whole_way limit still [] (m ∷ ms) rs z y = absurd z
whole_way limit still (p ∷ ps) [] rs z y = absurd z
whole_way limit still (p ∷ ps) (m ∷ ms) [] z y = absurd y
whole_way limit still (p ∷ ps) (m ∷ ms) (r ∷ rs) z y = (
  record {
    weight = y.0.weight ∙ z.0.weight;
    held = y.0.held ∙ z.0.held;
    inside = y.0.inside;
    before = y.0.before;
  },
  whole_way limit still ps ms rs z.1 y.1,
)

-- ---- the end

rest_by : (tracks : List Track) (i : ℕ) (limit : ℤ) (p r : Particle) (held : Bool) → p.held ≡ held → Stops limit p r
    → rests tracks i p ≡ true → rests tracks i r ≡ true
rest_by tracks i limit p r true e s h =
    let still = s.stays e in
    let same : is_at_rest r ≡ is_at_rest p = ap (λ (v : Vec3). is_at_rest (record r { at = v })) still.0
    ∙ ap (λ (v : Vec3). is_at_rest (record r { at = p.at; before = v })) still.1 in
    ap (λ b. not b || is_tracked tracks i || is_at_rest r) s.held ∙ ap (λ b. not p.held || is_tracked tracks i || b) same ∙ h
rest_by tracks i limit p r false e s h = ap (λ b. not b || is_tracked tracks i || is_at_rest r) (s.held ∙ e)

rest_stays : (tracks : List Track) (i : ℕ) (limit : ℤ) (ps rs : List Particle) → AllZip (Stops limit) ps rs → all_rest tracks i ps ≡ true
    → IsTrue (list_all {X = ℕ × Particle} (λ n. not n.1.held || is_tracked tracks n.0 || is_at_rest n.1) (enumerate_from i rs))
rest_stays tracks i limit [] [] z h = refl
rest_stays tracks i limit [] (r ∷ rs) z h = absurd z
rest_stays tracks i limit (p ∷ ps) [] z h = absurd z
rest_stays tracks i limit (p ∷ ps) (r ∷ rs) z h =
    let parts = and_parts (rests tracks i p) (all_rest tracks (i + 1) ps) h in
    and_from _ _ (rest_by tracks i limit p r p.held refl z.0 parts.0) (rest_stays tracks (i + 1) limit ps rs z.1 parts.1)

fit_steps : (limit : ℤ) (ps rs : List Particle) → AllByRecursion (IsFit limit) ps → AllZip (Steps limit) ps rs
    → AllByRecursion (IsFit limit) rs
fit_steps limit [] [] f z = tt
fit_steps limit [] (r ∷ rs) f z = absurd z
fit_steps limit (p ∷ ps) [] f z = absurd z
fit_steps limit (p ∷ ps) (r ∷ rs) f z = (
  record {
    at = z.0.inside;
    before = z.0.before;
    low = ap (nat_le 1) z.0.weight ∙ f.0.low;
    high = ap (λ n. nat_le n 65535) z.0.weight ∙ f.0.high;
  },
  fit_steps limit ps rs f.1 z.1,
)

weight_steps : (limit : ℤ) (ps rs : List Particle) → AllZip (Steps limit) ps rs
    → AllZip {A = Particle} {B = Particle} (λ p r. r.weight ≡ p.weight) ps rs
weight_steps limit = zip-weaker (Steps limit) (λ p r. r.weight ≡ p.weight) (λ p r s. s.weight)

-- what a step gives, where its balance is known apart
pub record Stepped (w v : World) : Type 0 where
  pub sound : IsBalanced v.opening v.totals v.particles → IsSound v
  pub count : v.steps ≡ w.steps + 1
  pub one_scene : AreOfOneScene w v

pub settled_sound : (w : World) (ms : List Moved) (s : Passing) (pairs : List (ℕ × ℕ)) (f : ℕ) → IsSound w → w.steps + 1 ≤ 1000000
    → length pairs ≤ 262144 → w.friction ≡ pos f → f ≤ 256
    → AllZip (Starts w.limit (w.damping ≡ pos 0)) w.particles ms
    → all_rest w.tracks 0 (map {A = Moved} {B = Particle} (λ m. m.particle) ms) ≡ true
    → PassGoes w.limit (map {A = Moved} {B = Particle} (λ m. m.particle) ms) (all_booked w.totals ms) (2 ^ 64 * w.steps + 2 ^ 47 + 2 ^ 63) s
    → Stepped w (settled w pairs (rub w.friction s))
settled_sound w ms s pairs f sound steps few fric small z rest go =
    let form = formed (parts_of w) sound.well_formed in
    let lim = limit_of w form in
    let ps = map {A = Moved} {B = Particle} (λ m. m.particle) ms in
    let begun = started w.limit (w.damping ≡ pos 0) w.particles ms z in
    let both = rub_stops w.limit f ps s.motion.particles s.touched lim small go.motion.kept begun.2 go.touched in
    let rubs = rub_all w.friction s.motion.particles s.touched in
    let rs = map {A = Moved} {B = Particle} (λ m. m.particle) rubs in
    let is = ap (λ x. rub_all x s.motion.particles s.touched) fric in
    let stops : AllZip (Stops w.limit) ps rs = subst (λ (xs : List Moved).
    AllZip (Stops w.limit) ps (map {A = Moved} {B = Particle} (λ m. m.particle) xs)) (sym is) both.0 in
    let quiet : AllByRecursion (IsQuiet (Unit {0})) rubs =
    subst (λ (xs : List Moved). AllByRecursion (IsQuiet (Unit {0})) xs) (sym is) both.1 in
    let way = whole_way w.limit (w.damping ≡ pos 0) w.particles ms rs z stops in
    let many : length rs ≡ length w.particles = length-zipped (Steps w.limit) w.particles rs way in
    let counts = and_parts (nat_le (length w.particles) 65536) (list_all (is_valid_particle w.limit) w.particles) form.particles in
    let fits = fit_steps w.limit w.particles rs (all_fit w.limit w.particles counts.1) way in
    let most : length w.particles ≤ 65536 = leb-true (length w.particles) 65536 counts.0 in
    let rubbed_many : length rubs ≡ length rs = sym (length-mapped (λ (m : Moved). m.particle) rubs) in
    let t = all_booked s.motion.totals rubs in
    let bound = moved_bounded (Unit {0}) rubs s.motion.totals (2 ^ 64 * w.steps + 2 ^ 47 + 2 ^ 63) quiet go.motion.bounded in
    record {
      sound = λ balance. record {
        well_formed = still_formed (parts_of w) rs (tear rs w.links) w.gravity form many fits (torn_same rs w.links) form.gravity;
        tracked = tracked_held w.tracks w.particles rs (zip-weaker (Steps w.limit) (λ p r. r.held ≡ p.held) (λ p r s. s.held) w.particles rs way) sound.tracked;
        at_rest = rest_stays w.tracks 0 w.limit ps rs stops rest;
        steps = steps;
        contacts = few;
        bounded = bounded_weaker t (2 ^ 64 * w.steps + 2 ^ 47 + 2 ^ 63 + length rubs * 2 ^ 31) (2 ^ 64 * (w.steps + 1))
            (omega (arith, rubbed_many, many, most)) bound;
        opening = sound.opening;
        balanced = balance;
        undamped = λ e. moved_damping (Unit {0}) rubs s.motion.totals tt quiet ∙ go.motion.damping
            ∙ moved_damping (w.damping ≡ pos 0) ms w.totals e begun.0 ∙ sound.undamped e;
        one_weight = λ weight all.
            let before = have_weight weight ps rs
            (zip-weaker (Stops w.limit) (λ p r. r.weight ≡ p.weight) (λ p r s. s.weight) ps rs stops) all in
            let first = have_weight weight w.particles rs (weight_steps w.limit w.particles rs way) all in
            let even = go.motion.even weight before in
            let old = sound.one_weight weight first in (
              moved_links (Unit {0}) rubs s.motion.totals quiet ∙ even.0 ∙ moved_links (w.damping ≡ pos 0) ms w.totals begun.0 ∙ old.0,
              moved_contacts (Unit {0}) rubs s.motion.totals quiet ∙ even.1 ∙ moved_contacts (w.damping ≡ pos 0) ms w.totals begun.0
                  ∙ old.1,
            );
      };
      count = refl;
      one_scene =
          let particles : all_blank w.particles ≡ all_blank rs = weights_same w.particles rs (weight_steps w.limit w.particles rs way) in
          let links : all_unlive w.links ≡ all_unlive (tear rs w.links) = sym (torn_same rs w.links) in
          λ i. record (unchanging w) { particles = particles i; links = links i };
    }

-- ---- the step

-- a motion at the start of a step
pub record Begun (w : World) (m : Motion) : Type 0 where
  pub ms : List Moved
  pub is : m ≡ all_moved w.totals ms
  pub starts : AllZip (Starts w.limit (w.damping ≡ pos 0)) w.particles ms
  pub rest : all_rest w.tracks 0 (map {A = Moved} {B = Particle} (λ m. m.particle) ms) ≡ true

pub can_predict : (w : World) → IsSound w → CanPredict w
can_predict w sound =
    let form = formed (parts_of w) sound.well_formed in
    let numbers = numbers_of w form in
    let p2 = and_parts _ _ form.tracks in
    record {
      limit = limit_of w form;
      gravity = form.gravity;
      damping_low = numbers.damping_low;
      damping_high = numbers.damping_high;
      tracks = (and_parts _ _ p2.0).1;
    }

both_ok : {A E : Type 0} (P Q : A → Type 0) (r : Result A E) → IfOk r P → IfOk r Q → IfOk r (λ x. P x × Q x)
both_ok P Q (Ok x) h k = (h, k)
both_ok P Q (Err e) h k = tt

pub predict_begins : (w : World) → IsSound w → IfOk (predict w) (Begun w)
unfolding predict
predict_begins w sound =
    let form = formed (parts_of w) sound.well_formed in
    let counts = and_parts (nat_le (length w.particles) 65536) (list_all (is_valid_particle w.limit) w.particles) form.particles in
    let fits = all_fit w.limit w.particles counts.1 in
    let still : Type 0 = w.damping ≡ pos 0 in
    let R : Particle → Moved → Type 0 = λ p x. IsTrue (is_within w.limit p.at) × IsTrue (is_within w.limit p.before)
    → Starts w.limit still p x in
    let Q : List Moved → Type 0 = λ ms. all_rest w.tracks 0 (map {A = Moved} {B = Particle} (λ m. m.particle) ms) ≡ true in
    bind-keeps (λ ms. AllZip R w.particles ms × Q ms) (Begun w) (each_from 0 (predicted w) w.particles) (λ ms. Ok (all_moved w.totals ms))
    (both_ok (AllZip R w.particles) Q (each_from 0 (predicted w) w.particles)
    (each-keeps R (predicted w) (λ i p. predicted_starts w i p (can_predict w sound)) 0 w.particles)
    (predict_rests w 0 w.particles))
    (λ ms h. record { ms = ms; is = refl; starts = starts_list w.limit still w.particles ms fits h.0; rest = h.1 })

start_goes : (w : World) (ms : List Moved) → IsSound w → AllZip (Starts w.limit (w.damping ≡ pos 0)) w.particles ms
    → Goes w.limit (map {A = Moved} {B = Particle} (λ m. m.particle) ms) (all_booked w.totals ms) (2 ^ 64 * w.steps + 2 ^ 47)
    (all_moved w.totals ms)
start_goes w ms sound z =
    let form = formed (parts_of w) sound.well_formed in
    let few = leb-true (length w.particles) 65536 (and_parts (nat_le (length w.particles) 65536)
    (list_all (is_valid_particle w.limit) w.particles) form.particles).0 in
    let begun = started w.limit (w.damping ≡ pos 0) w.particles ms z in
    let many : length ms ≡ length w.particles = length-zipped (Starts w.limit (w.damping ≡ pos 0)) w.particles ms z in
    record {
      kept = begun.1;
      bounded = bounded_weaker (all_booked w.totals ms) (2 ^ 64 * w.steps + length ms * 2 ^ 31) (2 ^ 64 * w.steps + 2 ^ 47)
          (omega (arith, many, few)) (moved_bounded (w.damping ≡ pos 0) ms w.totals (2 ^ 64 * w.steps) begun.0 sound.bounded);
      damping = refl;
      even = λ weight all. (refl, refl);
    }

passes_go : (w : World) (ms : List Moved) (pairs : List (ℕ × ℕ)) → IsSound w → AllZip (Starts w.limit (w.damping ≡ pos 0)) w.particles ms
    → AllByRecursion (ArePair (length (map {A = Moved} {B = Particle} (λ m. m.particle) ms))) pairs → length pairs ≤ 262144
    → IfOk (repeated w.passes (pass w pairs) (untouched (all_moved w.totals ms)))
    (PassGoes w.limit (map {A = Moved} {B = Particle} (λ m. m.particle) ms) (all_booked w.totals ms) (2 ^ 64 * w.steps + 2 ^ 47 + 2 ^ 63))
passes_go w ms pairs sound z all few =
    let form = formed (parts_of w) sound.well_formed in
    let lim = limit_of w form in
    let numbers = numbers_of w form in
    let ps = map {A = Moved} {B = Particle} (λ m. m.particle) ms in
    let t = all_booked w.totals ms in
    let b = 2 ^ 64 * w.steps + 2 ^ 47 in
    let same : length ps ≡ length w.particles = length-mapped (λ (m : Moved). m.particle) ms
    ∙ length-zipped (Starts w.limit (w.damping ≡ pos 0)) w.particles ms z in
    let most : length ps ≤ 65536 = omega (
      arith,
      same,
      leb-true (length w.particles) 65536
          (and_parts (nat_le (length w.particles) 65536) (list_all (is_valid_particle w.limit) w.particles) form.particles).0,
    ) in
    let l3 = and_parts _ _ form.links in let l2 = and_parts _ _ l3.0 in
    let l1 = and_parts (nat_le (length w.links) 524288) (list_all (is_valid_link w.limit (length w.particles)) w.links) l2.0 in
    let links : length w.links ≤ 524288 = leb-true (length w.links) 524288 l1.0 in
    let ready = sound-ready w sound in
    let ends : (k : ℕ) → k < length w.links → AreEnds (length ps) (link_bond w.links k) = λ k l.
    (let e = ready.ends k l in record { first = omega (arith, e.first, same); second = omega (arith, e.second, same); apart = e.apart })
    in
    ok_weaker (PassGoes w.limit ps t (b + w.passes * 2 ^ 57)) (PassGoes w.limit ps t (b + 2 ^ 63))
    (repeated w.passes (pass w pairs) (untouched (all_moved w.totals ms)))
    (λ s k. pass_weaker w.limit ps t (b + w.passes * 2 ^ 57) (b + 2 ^ 63) s (omega (arith, numbers.passes)) k)
    (repeat-counts (λ n s. PassGoes w.limit ps t n s) (2 ^ 57) (pass w pairs)
    (λ x y s l k. pass_weaker w.limit ps t x y s l k)
    (λ n s k. pass_goes w pairs ps t n s lim most ends links all few k)
    w.passes b (untouched (all_moved w.totals ms))
    (record { motion = start_goes w ms sound z; touched = length-mapped (λ (p : Particle). false) ps }))

unless_many_sound : (w : World) (ms : List Moved) (pairs : List (ℕ × ℕ)) (many : Bool) → IsSound w → w.steps + 1 ≤ 1000000
    → nat_lt 262144 (length pairs) ≡ many → AllZip (Starts w.limit (w.damping ≡ pos 0)) w.particles ms
    → all_rest w.tracks 0 (map {A = Moved} {B = Particle} (λ m. m.particle) ms) ≡ true
    → AllByRecursion (ArePair (length (map {A = Moved} {B = Particle} (λ m. m.particle) ms))) pairs
    → IfOk (if many then Err (TooManyContacts (w.steps + 1)) else
    (repeated w.passes (pass w pairs) (untouched (all_moved w.totals ms)) >>= λ s. Ok (settled w pairs (rub w.friction s)))) (Stepped w)
unless_many_sound w ms pairs true sound steps e z rest all = tt
unless_many_sound w ms pairs false sound steps e z rest all =
    let form = formed (parts_of w) sound.well_formed in
    let numbers = numbers_of w form in
    let few : length pairs ≤ 262144 = ltb-false 262144 (length pairs) e in
    let ps = map {A = Moved} {B = Particle} (λ m. m.particle) ms in
    bind-keeps (PassGoes w.limit ps (all_booked w.totals ms) (2 ^ 64 * w.steps + 2 ^ 47 + 2 ^ 63)) (Stepped w)
    (repeated w.passes (pass w pairs) (untouched (all_moved w.totals ms))) (λ s. Ok (settled w pairs (rub w.friction s)))
    (passes_go w ms pairs sound z all few)
    (λ s k. settled_sound w ms s pairs (unsigned_abs w.friction) sound steps few
    (pos_size w.friction numbers.friction_low) numbers.friction_high z rest k)

after_sound : (w : World) (m : Motion) → IsSound w → w.steps + 1 ≤ 1000000 → Begun w m
    → IfOk (after_contacts w m (contacts_of w.thickness w.links m.particles)) (Stepped w)
after_sound w m sound steps begun =
    let ms = begun.ms in
    let ps = map {A = Moved} {B = Particle} (λ m. m.particle) ms in
    let pairs = contacts_of w.thickness w.links ps in
    let result = unless_many_sound w ms pairs (nat_lt 262144 (length pairs)) sound steps refl begun.starts begun.rest
    (contact-pairs w.thickness w.links ps) in
    subst (λ (n : Motion). IfOk (after_contacts w n (contacts_of w.thickness w.links n.particles)) (Stepped w)) (sym begun.is) result

-- a step of a sound world: sound, one step on, and of one scene
pub step_sound : (w : World) → IsSound w → w.steps + 1 ≤ 1000000
    → IfOk (step w) (λ v. IsSound v × (v.steps ≡ w.steps + 1) × AreOfOneScene w v)
unfolding step
step_sound w sound steps =
    let stepped : IfOk (step w) (Stepped w) =
    bind-keeps (Begun w) (Stepped w) (with_fault (leaves w phases.Predict) (predict w))
    (λ m. after_contacts w m (contacts_of w.thickness w.links m.particles))
    (fault-keeps (Begun w) (leaves w phases.Predict) (predict w) (predict_begins w sound))
    (λ m begun. after_sound w m sound steps begun) in
    ok_weaker (λ v. Stepped w v × IsReady v) (λ v. IsSound v × (v.steps ≡ w.steps + 1) × AreOfOneScene w v) (step w)
    (λ v h. (h.0.sound h.1.balance, h.0.count, h.0.one_scene))
    (both_ok (Stepped w) IsReady (step w) stepped (step-ready w (sound-ready w sound)))
