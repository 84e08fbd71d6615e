-- Tracks lead the held particles once all particles are predicted without them.
use Rattle.std.proofs.Common.{◌≡◌, refl, sym, ap, ◌∙◌, ℕ, zero, suc, ◌+◌, ◌<◌, ◌==◌, Bool, true, false, if◌then◌else◌, List, [], ◌∷◌}
use Rattle.std.proofs.Common.{length, arith, ℤ, pos, Option, Some, None, Result, Ok, Err, subst, inl, inr}
use Rattle.std.specs.Prelude.{IsTrue, IfOk, nat_le, option_map}
use Rattle.std.specs.List.{AllByRecursion, AllZip, list_all, find}
use Rattle.std.proofs.lemmas.List.{ext_get_or}
use Rattle.std.proofs.lemmas.Bool.{and_parts, and_from, false≢true, cases_eq, ne_eqb}
use Rattle.pbd_num.specs.Vectors.{is_within}
use Rattle.pbd_world.specs.declared.parts.Particle.{Particle}
use Rattle.pbd_world.specs.declared.parts.Track.{Track}
use Rattle.pbd_world.specs.Ledger.{Ledger, booked, HaveRoom}
use Rattle.pbd_world.specs.Outcomes.{◌>>=◌, one_more, each_from}
use Rattle.pbd_world.specs.Particles.{Motion, Moved, all_moved, no_particle, particle_at}
use Rattle.pbd_world.specs.Shapes.{stays}
use Rattle.pbd_world.specs.Tracks.{track_of, held_place}
use Rattle.pbd_world.specs.Step.{attached, flown, predicted, predict}
use Rattle.pbd_world.specs.Valid.{is_valid_particle, are_valid_links, are_valid_tracks, are_tracked_held}
use Rattle.pbd_world.specs.World.{World, parts_of, IsSound}
use Rattle.pbd_world.proofs.KeepingOn.{length-mapped, length-zipped}
use Rattle.pbd_world.proofs.LedgerBounds.{all_booked}
use Rattle.pbd_world.proofs.PredictGoes.{Starts}
use Rattle.pbd_world.proofs.StepSound.{Begun, predict_begins}
use Rattle.pbd_world.proofs.WorldParts.{formed, from_formed, IsFit, all_fit, are_fit}
use Rattle.pbd_track.specs.Tracking.{Attached, attached_at}
use Rattle.pbd_step.specs.Predicting.{unled}
use Rattle.pbd_step.specs.States.{IsUnderWay}
use Rattle.pbd_step.proofs.Predicting.{particles_of}

-- ---- one particle

-- a moved particle i where its track leads it
abbrev led : List Track → ℕ → ℕ → Moved → Moved
led tracks t i m = record m { particle = record m.particle { at = held_place (track_of tracks i) t m.particle.at } }

-- no track leads a free particle
abbrev IsFollowed : List Track → ℕ → Particle → Type 0
IsFollowed tracks i p = p.held ≡ false → track_of tracks i ≡ None

led_if : (w : World) (i : ℕ) (p : Particle) (held within : Bool) → (held ≡ false → track_of w.tracks i ≡ None)
    → (if held then Some (stays (attached w i p)) else (if within then Some (flown w p) else None))
    ≡ option_map (led w.tracks (w.steps + 1) i) (if held then Some (stays (attached (unled w) i p)) else
    (if within then Some (flown (unled w) p) else None))
led_if w i p true within free = refl
led_if w i p false false free = refl
led_if w i p false true free = ap (λ (o : Option Track).
    Some (record (flown w p) { particle = record (flown w p).particle { at = held_place o (w.steps + 1) (flown w p).particle.at } }))
    (sym (free refl))

led_is : (w : World) (i : ℕ) (p : Particle) → IsFollowed w.tracks i p
    → predicted w i p ≡ option_map (led w.tracks (w.steps + 1) i) (predicted (unled w) i p)
led_is w i p free = led_if w i p p.held (is_within w.limit (flown w p).particle.at) free

-- ---- all particles

all_led : List Track → ℕ → ℕ → List Moved → List Moved
all_led tracks t i [] = []
all_led tracks t i (m ∷ ms) = led tracks t i m ∷ all_led tracks t (i + 1) ms

led_result : List Track → ℕ → ℕ → Result (List Moved) ℕ → Result (List Moved) ℕ
led_result tracks t i (Ok ms) = Ok (all_led tracks t i ms)
led_result tracks t i (Err n) = Err n

one_led : (tracks : List Track) (t i : ℕ) (o : Option Moved) (r : Result (List Moved) ℕ)
    → one_more i (option_map (led tracks t i) o) (led_result tracks t (i + 1) r) ≡ led_result tracks t i (one_more i o r)
unfolding led_result all_led
one_led tracks t i None r = refl
one_led tracks t i (Some m) (Ok ms) = refl
one_led tracks t i (Some m) (Err n) = refl

each_led : (w : World) (i : ℕ) (ps : List Particle) → ((k : ℕ) → k < length ps → IsFollowed w.tracks (i + k) (particle_at ps k))
    → each_from i (predicted w) ps ≡ led_result w.tracks (w.steps + 1) i (each_from i (predicted (unled w)) ps)
unfolding led_result all_led
each_led w i [] free = refl
each_led w i (p ∷ ps) free =
    let now : IsFollowed w.tracks i p = subst (λ (n : ℕ). IsFollowed w.tracks n p) (omega arith) (free 0 (omega arith)) in
    let later : (k : ℕ) → k < length ps → IsFollowed w.tracks (i + 1 + k) (particle_at ps k) = λ k l.
    subst (λ (n : ℕ). IsFollowed w.tracks n (particle_at ps k)) (omega arith) (free (suc k) (omega (arith, l))) in
    ap (λ (o : Option Moved). one_more i o (each_from (i + 1) (predicted w) ps)) (led_is w i p now)
    ∙ ap (λ (r : Result (List Moved) ℕ). one_more i (option_map (led w.tracks (w.steps + 1) i) (predicted (unled w) i p)) r)
    (each_led w (i + 1) ps later)
    ∙ one_led w.tracks (w.steps + 1) i (predicted (unled w) i p) (each_from (i + 1) (predicted (unled w)) ps)

led_totals : (tracks : List Track) (t i : ℕ) (u : Ledger) (ms : List Moved) → all_booked u (all_led tracks t i ms) ≡ all_booked u ms
unfolding all_led
led_totals tracks t i u [] = refl
led_totals tracks t i u (m ∷ ms) = led_totals tracks t (i + 1) (booked u m.entries) ms

led_length : (tracks : List Track) (t i : ℕ) (ms : List Moved) → length (particles_of (all_led tracks t i ms)) ≡ length (particles_of ms)
unfolding all_led
led_length tracks t i [] = refl
led_length tracks t i (m ∷ ms) = ap suc (led_length tracks t (i + 1) ms)

led_at : (tracks : List Track) (t i k : ℕ) (ms : List Moved) → k < length (particles_of ms)
    → particle_at (particles_of (all_led tracks t i ms)) k ≡
    record (particle_at (particles_of ms) k) { at = held_place (track_of tracks (i + k)) t (particle_at (particles_of ms) k).at }
unfolding all_led
led_at tracks t i k [] l = absurd (omega (arith, l))
led_at tracks t i zero (m ∷ ms) l = ap (λ (n : ℕ). record m.particle { at = held_place (track_of tracks n) t m.particle.at }) (omega arith)
led_at tracks t i (suc k) (m ∷ ms) l =
    led_at tracks t (i + 1) k ms (omega (arith, l))
    ∙ ap (λ (n : ℕ). record (particle_at (particles_of ms) k)
    { at = held_place (track_of tracks n) t (particle_at (particles_of ms) k).at }) (omega arith)

led_from_first : (tracks : List Track) (t k : ℕ) (ms : List Moved) → k < length (particles_of ms)
    → particle_at (particles_of (all_led tracks t 0 ms)) k ≡ attached_at tracks t (particles_of ms) k
led_from_first tracks t k ms l = led_at tracks t 0 k ms l
    ∙ ap (λ (n : ℕ). record (particle_at (particles_of ms) k)
    { at = held_place (track_of tracks n) t (particle_at (particles_of ms) k).at })
    (omega arith)

-- ---- tracked particles are held

held_or : (ps : List Particle) (tracks : List Track) (i : ℕ) → IsTrue (are_tracked_held tracks ps) → (particle_at ps i).held ≡ false
    → track_of tracks i ≡ None
held_or ps [] i h free = refl
held_or ps (t ∷ ts) i h free =
    let parts = and_parts ((particle_at ps t.particle).held) (are_tracked_held ts ps) h in
    elim (cases_eq t.particle i) [
      | inl e ↦ absurd (false≢true (sym free ∙ sym (ap (λ (n : ℕ). (particle_at ps n).held) e) ∙ parts.0))
      | inr n ↦ ap (λ (b : Bool). if b then Some t else find (λ (u : Track). u.particle == i) ts) (ne_eqb t.particle i n)
          ∙ held_or ps ts i parts.1 free
    ]

followed : (w : World) → IsTrue (are_tracked_held w.tracks w.particles) → (k : ℕ) → k < length w.particles
    → IsFollowed w.tracks (0 + k) (particle_at w.particles k)
followed w h k l free = subst (λ (n : ℕ). track_of w.tracks n ≡ None) (omega arith) (held_or w.particles w.tracks k h free)

-- ---- the whole

-- what stops without tracks stops with them
pub stops_led : (w : World) (n : ℕ) → IsSound w → predict (unled w) ≡ Err n → predict w ≡ Err n
unfolding predict led_result
stops_led w n sound e = ap (λ (r : Result (List Moved) ℕ). r >>= λ ms. Ok (all_moved w.totals ms))
    (each_led w 0 w.particles (followed w sound.tracked)) ∙ stops_by_result (each_from 0 (predicted (unled w)) w.particles) e
  where
    stops_by_result : (r : Result (List Moved) ℕ) → (r >>= λ ms. Ok (all_moved w.totals ms)) ≡ Err n
        → (led_result w.tracks (w.steps + 1) 0 r >>= λ ms. Ok (all_moved w.totals ms)) ≡ Err n
    stops_by_result (Ok ms) h = absurd cc
    stops_by_result (Err m) h = h

-- what goes without tracks goes with them, and then each tracked particle is led
pub goes_led : (w : World) (m : Motion) (ps : List Particle) → IsSound w → predict (unled w) ≡ Ok m
    → Attached w.tracks (w.steps + 1) m.particles ps → predict w ≡ Ok (record m { particles = ps })
unfolding predict led_result
goes_led w m ps sound e follow = ap (λ (r : Result (List Moved) ℕ). r >>= λ ms. Ok (all_moved w.totals ms))
    (each_led w 0 w.particles (followed w sound.tracked)) ∙ goes_by_result (each_from 0 (predicted (unled w)) w.particles) e
  where
    motion : (ms : List Moved) → all_moved w.totals ms ≡ m
        → all_moved w.totals (all_led w.tracks (w.steps + 1) 0 ms) ≡ record m { particles = ps }
    motion ms h =
        let old : particles_of ms ≡ m.particles = ap (λ (n : Motion). n.particles) h in
        let at : Attached w.tracks (w.steps + 1) (particles_of ms) ps =
        subst (λ (qs : List Particle). Attached w.tracks (w.steps + 1) qs ps) (sym old) follow in
        let same : particles_of (all_led w.tracks (w.steps + 1) 0 ms) ≡ ps =
        ext_get_or no_particle (particles_of (all_led w.tracks (w.steps + 1) 0 ms)) ps
        (led_length w.tracks (w.steps + 1) 0 ms ∙ sym at.whole)
        (λ k l. let within : k < length (particles_of ms) = omega (arith, l, led_length w.tracks (w.steps + 1) 0 ms) in
        led_from_first w.tracks (w.steps + 1) k ms within ∙ sym (at.each k within)) in
        λ k. record { particles = same k; totals = (led_totals w.tracks (w.steps + 1) 0 w.totals ms ∙ ap (λ (n : Motion). n.totals) h) k }

    goes_by_result : (r : Result (List Moved) ℕ) → (r >>= λ ms. Ok (all_moved w.totals ms)) ≡ Ok m
        → (led_result w.tracks (w.steps + 1) 0 r >>= λ ms. Ok (all_moved w.totals ms)) ≡ Ok (record m { particles = ps })
    goes_by_result (Ok ms) h = let inner : all_moved w.totals ms ≡ m = cc in ap (λ (n : Motion). Ok n) (motion ms inner)
    goes_by_result (Err n) h = absurd cc

-- ---- what the next part of a step needs

fit_starts : (limit : ℤ) (still : Type 0) (ps : List Particle) (ms : List Moved) → AllByRecursion (IsFit limit) ps
    → AllZip (Starts limit still) ps ms → AllByRecursion (IsFit limit) (particles_of ms)
fit_starts limit still [] [] f z = tt
fit_starts limit still [] (m ∷ ms) f z = absurd z
fit_starts limit still (p ∷ ps) [] f z = absurd z
fit_starts limit still (p ∷ ps) (m ∷ ms) f z = (
  record {
    at = z.0.inside;
    before = z.0.before;
    low = ap (nat_le 1) z.0.weight ∙ f.0.low;
    high = ap (λ n. nat_le n 65535) z.0.weight ∙ f.0.high;
  },
  fit_starts limit still ps ms f.1 z.1,
)

-- a predicted world is under way
pub predicted_goes : (bound : ℕ) (w : World) (m : Motion) → IsSound w → predict w ≡ Ok m → HaveRoom bound m.totals
    → IsUnderWay bound (record w { particles = m.particles; totals = m.totals })
predicted_goes bound w m sound e room =
    let begun : Begun w m = subst (λ (r : Result Motion ℕ). IfOk r (Begun w)) e (predict_begins w sound) in
    let form = formed (parts_of w) sound.well_formed in
    let counts = and_parts (nat_le (length w.particles) 65536) (list_all (is_valid_particle w.limit) w.particles) form.particles in
    let ps = particles_of begun.ms in
    let is : ps ≡ m.particles = sym (ap (λ (n : Motion). n.particles) begun.is) in
    let many : length ps ≡ length w.particles = length-mapped (λ (x : Moved). x.particle) begun.ms
    ∙ length-zipped (Starts w.limit (w.damping ≡ pos 0)) w.particles begun.ms begun.starts in
    let fits = fit_starts w.limit (w.damping ≡ pos 0) w.particles begun.ms (all_fit w.limit w.particles counts.1) begun.starts in
    let all : length m.particles ≡ length w.particles = sym (ap (λ (qs : List Particle). length qs) is) ∙ many in
    record {
      well_formed = from_formed (parts_of (record w { particles = m.particles; totals = m.totals })) (record {
        limit = form.limit;
        particles = and_from _ _ (ap (λ n. nat_le n 65536) all ∙ counts.0)
            (subst (λ (qs : List Particle). IsTrue (list_all (is_valid_particle w.limit) qs)) is (are_fit w.limit ps fits));
        links = subst (λ (n : ℕ). IsTrue (are_valid_links w.limit n w.links)) (sym all) form.links;
        shapes = form.shapes;
        tracks = subst (λ (n : ℕ). IsTrue (are_valid_tracks w.limit n w.tracks)) (sym all) form.tracks;
        gravity = form.gravity;
        numbers = form.numbers;
      });
      room = room;
    }
