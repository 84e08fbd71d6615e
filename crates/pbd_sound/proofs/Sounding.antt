-- What is told on a sound world is sound exactly where nothing of it is found to be unsound.
use Rattle.std.proofs.Common.{◌≡◌, refl, sym, ap, ◌∙◌, subst, ℕ, suc, ◌+◌, ◌*◌, ◌<◌, ◌≤◌, ◌^◌, ◌==◌, Bool, true, false, not, ◌&&◌, ◌||◌}
use Rattle.std.proofs.Common.{List, [], ◌∷◌, length, get_or, arith, ℤ, pos, All, Option, Some, None, Result, Ok, Err}
use Rattle.std.specs.Prelude.{IsTrue, nat_le, nat_lt, if◌then◌else◌}
use Rattle.std.specs.Ordering.{int_eq}
use Rattle.std.specs.List.{AllByRecursion, list_all, list_any, enumerate_from}
use Rattle.std.proofs.lemmas.Bool.{and_parts, and_from, leb-true, ltb-true, eq-eqb, eqb-true, false≢true, not-false}
use Rattle.std.proofs.lemmas.Bool.Decides.{Decides-int_eq}
use Rattle.std.proofs.lemmas.List.Elements.{All-from_recursion, recursion_from_All}
use Rattle.pbd_num.specs.declared.Vec3.{Vec3}
use Rattle.pbd_num.specs.Vectors.{is_within}
use Rattle.pbd_world.specs.declared.parts.Particle.{Particle}
use Rattle.pbd_world.specs.declared.parts.Track.{Track}
use Rattle.pbd_world.specs.declared.totals.Class.TheVariants as classes
use Rattle.pbd_world.specs.Ledger.{Sum, Ledger, SumWithin, HaveRoom, zero_sum, both_sums, all_totals}
use Rattle.pbd_world.specs.Momentum.{momentum}
use Rattle.pbd_world.specs.Particles.{no_particle, particle_at}
use Rattle.pbd_world.specs.Valid.{is_valid_particle, is_valid_track, are_valid_links, are_valid_tracks, is_at_rest, are_tracked_held}
use Rattle.pbd_world.specs.World.{World, parts_of, is_tracked, are_held_at_rest, IsSound, AreBounded, HaveWeight}
use Rattle.pbd_world.proofs.KeptLemmas.{IsLimit}
use Rattle.pbd_world.proofs.SameShape.{links_valid, have_weight}
use Rattle.pbd_world.proofs.WorldParts.{formed, from_formed, limit_of, IsFit, all_fit, are_fit}
use Rattle.pbd_sound.specs.declared.described.Unsound.TheVariants as faults
use Rattle.pbd_sound.specs.Described.{Description, particle_told, link_told, particles_told, links_told, told}
use Rattle.pbd_sound.specs.Soundness.{first_where, without, is_outside, was_outside, is_held_wrongly, weighs_otherwise, weigh_alike}
use Rattle.pbd_sound.specs.Soundness.{is_none, is_sum_within, counts_checked, particles_checked, total_checked, totals_checked, most_unless}
use Rattle.pbd_sound.specs.Soundness.{is_balanced, ledger_checked, soundness}
use Rattle.pbd_sound.proofs.Where.{none_head, none_cons, none_first}
use Rattle.pbd_sound.proofs.Checks.{both_pass, passed, unless_passes, passes_unless, two_pass, pass_two, without_passes, passes_without}
use Rattle.pbd_sound.proofs.Checks.{is_not, at_most, not_more, total_facts, total_passes, none_within, within_none, same_sum}
use Rattle.pbd_sound.proofs.Checks.{sum_same, sum_facts, sum_test}
use Rattle.pbd_sound.proofs.Telling.{numbered, numbered_length, told_weights, told_unlive}
use Rattle.pbd_sound.proofs.Momenta.{IsPlaced, momentum_within, pin_axis}
use Rattle.std.proofs.Math.Bool.{or-true}

-- ---- particles

-- what passed tests of particles say
pub record ArePassed (limit : ℤ) (tracks : List Track) (ps : List Particle) : Type 0 where
  pub at : first_where 0 (is_outside limit) ps ≡ None
  pub before : first_where 0 (was_outside limit) ps ≡ None
  pub held : first_where 0 (is_held_wrongly tracks) ps ≡ None

pub particles_pass : (limit : ℤ) (tracks : List Track) (ps : List Particle) → particles_checked limit tracks ps ≡ Ok tt
    → ArePassed limit tracks ps
unfolding particles_checked
particles_pass limit tracks ps h =
    let p = both_pass _ _ h in
    let q = both_pass _ _ p.1 in
    record { at = without_passes faults.Place _ p.0; before = without_passes faults.Before _ q.0; held = without_passes faults.Held _ q.1 }

pub pass_particles : (limit : ℤ) (tracks : List Track) (ps : List Particle) → ArePassed limit tracks ps
    → particles_checked limit tracks ps ≡ Ok tt
unfolding particles_checked
pass_particles limit tracks ps h =
    passed _ _ (passes_without faults.Place _ h.at) (passed _ _ (passes_without faults.Before _ h.before)
    (passes_without faults.Held _ h.held))

placed_from : (limit : ℤ) (n : ℕ) (ps : List Particle) → first_where n (is_outside limit) ps ≡ None
    → first_where n (was_outside limit) ps ≡ None → AllByRecursion (IsPlaced limit) ps
placed_from limit n [] h k = tt
placed_from limit n (p ∷ ps) h k =
    let a = none_head n (is_outside limit) p ps h in
    let b = none_head n (was_outside limit) p ps k in
    (record { at = not-false _ a.0; before = not-false _ b.0 }, placed_from limit (n + 1) ps a.1 b.1)

pub passed_momentum : (limit : ℤ) (tracks : List Track) (ps : List Particle) → IsLimit limit → length ps ≤ 65536
    → particles_checked limit tracks ps ≡ Ok tt → SumWithin (2 ^ 84) (momentum ps)
passed_momentum limit tracks ps lim few h =
    let passes = particles_pass limit tracks ps h in
    let m = momentum_within limit ps lim (placed_from limit 0 ps passes.at passes.before) in
    record { x = omega (arith, few, m.x); y = omega (arith, few, m.y); z = omega (arith, few, m.z) }

fit_told : (limit : ℤ) (d : Description) (n : ℕ) (ps : List Particle) → AllByRecursion (IsFit limit) ps
    → AllByRecursion (IsPlaced limit) (numbered (particle_told d) n ps) → AllByRecursion (IsFit limit) (numbered (particle_told d) n ps)
fit_told limit d n [] h k = tt
fit_told limit d n (p ∷ ps) h k = (
  record { at = k.0.at; before = k.0.before; low = h.0.low; high = h.0.high },
  fit_told limit d (n + 1) ps h.1 k.1,
)

-- a particle that isn't held wrongly
if_true : {A : Type 0} (b : Bool) (x y : A) → b ≡ true → (if b then x else y) ≡ x
if_true b x y e = rw e refl

held_tracked : (tracks : List Track) (i : ℕ) (p : Particle) → is_held_wrongly tracks i p ≡ false → is_tracked tracks i ≡ true
    → p.held ≡ true
held_tracked tracks i p h e = not-false p.held (sym (if_true (is_tracked tracks i) (not p.held) (p.held && not (is_at_rest p)) e) ∙ h)

rests_so : (held tracked rest : Bool) → (if tracked then not held else (held && not rest)) ≡ false → (not held || tracked || rest) ≡ true
rests_so true true rest h = refl
rests_so true false true h = refl
rests_so true false false h = cc
rests_so false tracked rest h = refl

wrong_not : (held tracked rest : Bool) → (not held || tracked || rest) ≡ true → (tracked ≡ true → held ≡ true)
    → (if tracked then not held else (held && not rest)) ≡ false
wrong_not true true rest h k = refl
wrong_not true false true h k = refl
wrong_not true false false h k = cc
wrong_not false true rest h k = absurd (false≢true (k refl))
wrong_not false false rest h k = refl

pub rest_from : (tracks : List Track) (n : ℕ) (ps : List Particle) → first_where n (is_held_wrongly tracks) ps ≡ None
    → IsTrue (list_all {X = ℕ × Particle} (λ m. not m.1.held || is_tracked tracks m.0 || is_at_rest m.1) (enumerate_from n ps))
rest_from tracks n [] h = refl
rest_from tracks n (p ∷ ps) h =
    let a = none_head n (is_held_wrongly tracks) p ps h in
    and_from _ _ (rests_so p.held (is_tracked tracks n) (is_at_rest p) a.0) (rest_from tracks (n + 1) ps a.1)

tracked_from : (all ts : List Track) (ps : List Particle) → ((i : ℕ) → is_tracked ts i ≡ true → is_tracked all i ≡ true)
    → IsTrue (list_all (λ t. nat_lt t.particle (length ps)) ts) → first_where 0 (is_held_wrongly all) ps ≡ None
    → IsTrue (are_tracked_held ts ps)
tracked_from all [] ps sub within h = refl
tracked_from all (t ∷ ts) ps sub within h =
    let parts = and_parts (nat_lt t.particle (length ps)) _ within in
    let named : is_tracked all t.particle ≡ true = sub t.particle
    (ap (λ (b : Bool). b || is_tracked ts t.particle) (eq-eqb t.particle t.particle refl)) in
    and_from _ _
    (held_tracked all t.particle (particle_at ps t.particle)
    (none_first (is_held_wrongly all) ps t.particle no_particle h (ltb-true t.particle (length ps) parts.0)) named)
    (tracked_from all ts ps (λ i e. sub i (ap (λ (b : Bool). (t.particle == i) || b) e ∙ or-true (t.particle == i))) parts.1 h)

-- tracks name particles
tracks_within : (limit : ℤ) (n : ℕ) (ts : List Track) → IsTrue (list_all (is_valid_track limit n) ts)
    → IsTrue (list_all (λ t. nat_lt t.particle n) ts)
tracks_within limit n [] h = refl
tracks_within limit n (t ∷ ts) h =
    let parts = and_parts (is_valid_track limit n t) _ h in
    and_from _ _ (and_parts _ _ (and_parts _ _ (and_parts _ _ parts.0).0).0).0 (tracks_within limit n ts parts.1)

held_where : (ts : List Track) (ps : List Particle) (i : ℕ) → IsTrue (are_tracked_held ts ps) → is_tracked ts i ≡ true
    → (particle_at ps i).held ≡ true
held_where [] ps i h e = cc
held_where (t ∷ ts) ps i h e =
    let parts = and_parts (particle_at ps t.particle).held _ h in
    held_by_track (t.particle == i) refl parts.0 (held_where ts ps i parts.1)
  where
    held_by_track : (b : Bool) → (t.particle == i) ≡ b → (particle_at ps t.particle).held ≡ true
        → (is_tracked ts i ≡ true → (particle_at ps i).held ≡ true) → (particle_at ps i).held ≡ true
    held_by_track true is first rest = ap (λ (k : ℕ). (particle_at ps k).held) (sym (eqb-true t.particle i is)) ∙ first
    held_by_track false is first rest = rest (sym (ap (λ (b : Bool). b || is_tracked ts i) is) ∙ e)

-- ---- weights

alike_from : (weight n : ℕ) (ps : List Particle) → AllByRecursion {X = Particle} (λ p. p.weight ≡ weight) ps
    → first_where n (weighs_otherwise weight) ps ≡ None
alike_from weight n [] h = refl
alike_from weight n (p ∷ ps) h = none_cons n (weighs_otherwise weight) p ps (is_not _ (eq-eqb p.weight weight h.0))
    (alike_from weight (n + 1) ps h.1)

alike_to : (weight n : ℕ) (ps : List Particle) → first_where n (weighs_otherwise weight) ps ≡ None
    → AllByRecursion {X = Particle} (λ p. p.weight ≡ weight) ps
alike_to weight n [] h = tt
alike_to weight n (p ∷ ps) h =
    let a = none_head n (weighs_otherwise weight) p ps h in
    (eqb-true p.weight weight (not-false _ a.0), alike_to weight (n + 1) ps a.1)

-- the weight of all is that of the first
first_weight : (weight : ℕ) (ps : List Particle) → AllByRecursion {X = Particle} (λ p. p.weight ≡ weight) ps
    → AllByRecursion {X = Particle} (λ p. p.weight ≡ (particle_at ps 0).weight) ps
first_weight weight [] h = tt
first_weight weight (p ∷ ps) h = subst (λ (k : ℕ). AllByRecursion {X = Particle} (λ q. q.weight ≡ k) (p ∷ ps)) (sym h.0) h

none_is : (o : Option ℕ) → o ≡ None → is_none o ≡ true
none_is o e = ap is_none e

is_none_so : (o : Option ℕ) → is_none o ≡ true → o ≡ None
is_none_so None h = refl
is_none_so (Some i) h = cc

pub weigh_so : (weight : ℕ) (ps : List Particle) → HaveWeight weight ps → weigh_alike ps ≡ true
unfolding weigh_alike
weigh_so weight ps h = none_is _ (alike_from (particle_at ps 0).weight 0 ps
    (first_weight weight ps (recursion_from_All (λ (p : Particle). p.weight ≡ weight) ps h)))

pub so_weigh : (ps : List Particle) → weigh_alike ps ≡ true → HaveWeight (particle_at ps 0).weight ps
unfolding weigh_alike
so_weigh ps h = All-from_recursion (λ (p : Particle). p.weight ≡ (particle_at ps 0).weight) ps
    (alike_to (particle_at ps 0).weight 0 ps (is_none_so _ h))

-- ---- the ledger

pub record TotalsPass (most damped bonded : ℕ) (t : Ledger) : Type 0 where
  pub gravity : SumWithin most t.gravity
  pub damping : SumWithin damped t.damping
  pub link : SumWithin bonded t.link
  pub contact : SumWithin bonded t.contact
  pub shape : SumWithin most t.shape

pub totals_pass : (most damped bonded : ℕ) (t : Ledger) → totals_checked most damped bonded t ≡ Ok tt → TotalsPass most damped bonded t
unfolding totals_checked
totals_pass most damped bonded t h =
    let p1 = both_pass _ _ h in let p2 = both_pass _ _ p1.1 in let p3 = both_pass _ _ p2.1 in let p4 = both_pass _ _ p3.1 in
    record {
      gravity = total_facts classes.Gravity most t.gravity p1.0;
      damping = total_facts classes.Damping damped t.damping p2.0;
      link = total_facts classes.Link bonded t.link p3.0;
      contact = total_facts classes.Contact bonded t.contact p4.0;
      shape = total_facts classes.Shape most t.shape p4.1;
    }

pub pass_totals : (most damped bonded : ℕ) (t : Ledger) → TotalsPass most damped bonded t → totals_checked most damped bonded t ≡ Ok tt
unfolding totals_checked
pass_totals most damped bonded t h =
    passed _ _ (total_passes classes.Gravity most t.gravity h.gravity)
    (passed _ _ (total_passes classes.Damping damped t.damping h.damping)
    (passed _ _ (total_passes classes.Link bonded t.link h.link)
    (passed _ _ (total_passes classes.Contact bonded t.contact h.contact)
    (total_passes classes.Shape most t.shape h.shape))))

pub weaker : (a b : ℕ) (s : Sum) → a ≤ b → SumWithin a s → SumWithin b s
weaker a b s le h = record { x = omega (arith, le, h.x); y = omega (arith, le, h.y); z = omega (arith, le, h.z) }

most_small : (still : Bool) (steps : ℕ) → most_unless still steps ≤ 2 ^ 64 * steps
most_small true steps = omega arith
most_small false steps = omega arith

pub totals_bounded : (still alike : Bool) (steps : ℕ) (t : Ledger)
    → TotalsPass (2 ^ 64 * steps) (most_unless still steps) (most_unless alike steps) t → AreBounded (2 ^ 64 * steps) t
totals_bounded still alike steps t h = record {
  gravity = h.gravity;
  damping = weaker (most_unless still steps) (2 ^ 64 * steps) t.damping (most_small still steps) h.damping;
  link = weaker (most_unless alike steps) (2 ^ 64 * steps) t.link (most_small alike steps) h.link;
  contact = weaker (most_unless alike steps) (2 ^ 64 * steps) t.contact (most_small alike steps) h.contact;
  shape = h.shape;
}

still_none : (still : Bool) (steps : ℕ) (s : Sum) → still ≡ true → SumWithin (most_unless still steps) s → s ≡ zero_sum
still_none still steps s e h = none_within s (subst (λ (b : Bool). SumWithin (most_unless b steps) s) e h)

within_most : (still : Bool) (steps : ℕ) (s : Sum) → SumWithin (2 ^ 64 * steps) s → (still ≡ true → s ≡ zero_sum)
    → SumWithin (most_unless still steps) s
within_most true steps s h k = within_none s (k refl)
within_most false steps s h k = h

pub balance_pass : (opening : Sum) (t : Ledger) (ps : List Particle) → is_balanced opening t ps ≡ true
    → momentum ps ≡ both_sums opening (all_totals t)
unfolding is_balanced
balance_pass opening t ps h = same_sum _ _ h

pub pass_balance : (opening : Sum) (t : Ledger) (ps : List Particle) → momentum ps ≡ both_sums opening (all_totals t)
    → is_balanced opening t ps ≡ true
unfolding is_balanced
pass_balance opening t ps h = sum_same _ _ h

pub record LedgerPasses (w : World) : Type 0 where
  pub contacts : w.contacts ≤ 262144
  pub totals : TotalsPass (2 ^ 64 * w.steps) (most_unless (int_eq w.damping (pos 0)) w.steps)
      (most_unless (weigh_alike w.particles) w.steps) w.totals
  pub balance : momentum w.particles ≡ both_sums w.opening (all_totals w.totals)

ledger_passes : (w : World) → ledger_checked w.steps w.damping w.contacts w.opening w.totals w.particles ≡ Ok tt → LedgerPasses w
unfolding ledger_checked
ledger_passes w h =
    let p = both_pass _ _ h in
    let q = both_pass _ _ p.1 in
    record {
      contacts = at_most w.contacts 262144 (unless_passes _ faults.Contacts p.0);
      totals = totals_pass _ _ _ w.totals q.0;
      balance = balance_pass w.opening w.totals w.particles (not-false _ (unless_passes _ (faults.Total classes.Pin) q.1));
    }

pass_ledger : (w : World) → LedgerPasses w → ledger_checked w.steps w.damping w.contacts w.opening w.totals w.particles ≡ Ok tt
unfolding ledger_checked
pass_ledger w h =
    passed _ _ (passes_unless _ faults.Contacts (not_more w.contacts 262144 h.contacts))
    (passed _ _ (pass_totals _ _ _ w.totals h.totals)
    (passes_unless _ (faults.Total classes.Pin) (is_not _ (pass_balance w.opening w.totals w.particles h.balance))))

-- ---- all of it

record Passes (w : World) : Type 0 where
  pub steps : w.steps ≤ 1000000
  pub gravity : IsTrue (is_within w.limit w.gravity)
  pub particles : ArePassed w.limit w.tracks w.particles
  pub ledger : LedgerPasses w

passes : (w : World) → soundness w ≡ Ok tt → Passes w
unfolding soundness counts_checked
passes w h =
    let p = both_pass _ _ h in
    let q = both_pass _ _ p.1 in
    let counts = two_pass _ _ faults.Steps faults.Gravity p.0 in
    record {
      steps = at_most w.steps 1000000 counts.0;
      gravity = not-false _ counts.1;
      particles = particles_pass w.limit w.tracks w.particles q.0;
      ledger = ledger_passes w q.1;
    }

pass : (w : World) → Passes w → soundness w ≡ Ok tt
unfolding soundness counts_checked
pass w h =
    passed _ _ (pass_two _ _ faults.Steps faults.Gravity (not_more w.steps 1000000 h.steps) (is_not _ h.gravity))
    (passed _ _ (pass_particles w.limit w.tracks w.particles h.particles) (pass_ledger w h.ledger))

told_sound : (d : Description) (w : World) → IsSound w → Passes (told d w) → IsSound (told d w)
told_sound d w sound h =
    let v = told d w in
    let form = formed (parts_of w) sound.well_formed in
    let counts = and_parts (nat_le (length w.particles) 65536) (list_all (is_valid_particle w.limit) w.particles) form.particles in
    let many : length v.particles ≡ length w.particles = numbered_length (particle_told d) 0 w.particles in
    let tracks : IsTrue (are_valid_tracks w.limit (length v.particles) w.tracks) =
    subst (λ (n : ℕ). IsTrue (are_valid_tracks w.limit n w.tracks)) (sym many) form.tracks in
    let named = tracks_within w.limit (length v.particles) w.tracks (and_parts _ _ (and_parts _ _ tracks).0).1 in
    record {
      well_formed = from_formed (parts_of v) (record {
        limit = form.limit;
        particles = and_from _ _ (ap (λ n. nat_le n 65536) many ∙ counts.0)
            (are_fit w.limit v.particles (fit_told w.limit d 0 w.particles (all_fit w.limit w.particles counts.1)
            (placed_from w.limit 0 v.particles h.particles.at h.particles.before)));
        links = subst (λ (n : ℕ). IsTrue (are_valid_links w.limit n v.links)) (sym many)
            (links_valid w.limit (length w.particles) w.links v.links (told_unlive d 0 w.links) form.links);
        shapes = form.shapes;
        tracks = tracks;
        gravity = h.gravity;
        numbers = form.numbers;
      });
      tracked = tracked_from w.tracks w.tracks v.particles (λ i e. e) named h.particles.held;
      at_rest = rest_from w.tracks 0 v.particles h.particles.held;
      steps = h.steps;
      contacts = h.ledger.contacts;
      bounded = totals_bounded _ _ v.steps v.totals h.ledger.totals;
      opening = sound.opening;
      balanced = h.ledger.balance;
      undamped = λ e. still_none (int_eq w.damping (pos 0)) v.steps v.totals.damping
          ((Decides-int_eq w.damping (pos 0)).1 e) h.ledger.totals.damping;
      one_weight = λ weight all. let alike = weigh_so weight v.particles all in (
        still_none (weigh_alike v.particles) v.steps v.totals.link alike h.ledger.totals.link,
        still_none (weigh_alike v.particles) v.steps v.totals.contact alike h.ledger.totals.contact,
      );
    }

pub tested_sound : (d : Description) (w : World) → IsSound w → soundness (told d w) ≡ Ok tt → IsSound (told d w)
tested_sound d w sound h = told_sound d w sound (passes (told d w) h)

-- ---- what is sound passes

inside_from : (limit : ℤ) (n : ℕ) (ps : List Particle) → AllByRecursion (IsFit limit) ps → first_where n (is_outside limit) ps ≡ None
inside_from limit n [] h = refl
inside_from limit n (p ∷ ps) h = none_cons n (is_outside limit) p ps (is_not _ h.0.at) (inside_from limit (n + 1) ps h.1)

inside_before : (limit : ℤ) (n : ℕ) (ps : List Particle) → AllByRecursion (IsFit limit) ps → first_where n (was_outside limit) ps ≡ None
inside_before limit n [] h = refl
inside_before limit n (p ∷ ps) h = none_cons n (was_outside limit) p ps (is_not _ h.0.before) (inside_before limit (n + 1) ps h.1)

held_from : (tracks : List Track) (n : ℕ) (ps : List Particle)
    → ((i : ℕ) → i < length ps → is_tracked tracks (n + i) ≡ true → (particle_at ps i).held ≡ true)
    → IsTrue (list_all {X = ℕ × Particle} (λ m. not m.1.held || is_tracked tracks m.0 || is_at_rest m.1) (enumerate_from n ps))
    → first_where n (is_held_wrongly tracks) ps ≡ None
held_from tracks n [] k h = refl
held_from tracks n (p ∷ ps) k h =
    let parts = and_parts (not p.held || is_tracked tracks n || is_at_rest p) _ h in
    let zero : n + 0 ≡ n = omega arith in
    none_cons n (is_held_wrongly tracks) p ps
    (wrong_not p.held (is_tracked tracks n) (is_at_rest p) parts.0 (λ e. k 0 (omega arith) (ap (λ (m : ℕ). is_tracked tracks m) zero ∙ e)))
    (held_from tracks (n + 1) ps (λ i lt e. let more : n + (i + 1) ≡ (n + 1) + i = omega arith in let next : i + 1 ≡ suc i = omega arith in
    ap (λ (m : ℕ). (particle_at (p ∷ ps) m).held) (sym next) ∙ k (i + 1) (omega (arith, lt)) (ap (λ (m : ℕ). is_tracked tracks m) more ∙ e))
    parts.1)

sound_passes : (w : World) → IsSound w → Passes w
sound_passes w sound =
    let form = formed (parts_of w) sound.well_formed in
    let counts = and_parts (nat_le (length w.particles) 65536) (list_all (is_valid_particle w.limit) w.particles) form.particles in
    let fit = all_fit w.limit w.particles counts.1 in
    let b = sound.bounded in
    record {
      steps = sound.steps;
      gravity = form.gravity;
      particles = record {
        at = inside_from w.limit 0 w.particles fit;
        before = inside_before w.limit 0 w.particles fit;
        held = held_from w.tracks 0 w.particles (λ i lt e. let from_none : 0 + i ≡ i = omega arith in
            held_where w.tracks w.particles i sound.tracked (sym (ap (λ (k : ℕ). is_tracked w.tracks k) from_none) ∙ e)) sound.at_rest;
      };
      ledger = record {
        contacts = sound.contacts;
        totals = record {
          gravity = b.gravity;
          damping = within_most (int_eq w.damping (pos 0)) w.steps w.totals.damping b.damping
              (λ e. sound.undamped ((Decides-int_eq w.damping (pos 0)).0 e));
          link = within_most (weigh_alike w.particles) w.steps w.totals.link b.link (λ e. (sound.one_weight _ (so_weigh w.particles e)).0);
          contact = within_most (weigh_alike w.particles) w.steps w.totals.contact b.contact
              (λ e. (sound.one_weight _ (so_weigh w.particles e)).1);
          shape = b.shape;
        };
        balance = sound.balanced;
      };
    }

pub sound_tested : (w : World) → IsSound w → soundness w ≡ Ok tt
sound_tested w sound = pass w (sound_passes w sound)

-- ---- for the tests in turn

pub counts_few : (limit : ℤ) (steps : ℕ) (gravity : Vec3) → counts_checked limit steps gravity ≡ Ok tt → steps ≤ 1000000
unfolding counts_checked
counts_few limit steps gravity h = at_most steps 1000000 (two_pass _ _ faults.Steps faults.Gravity h).0

pub most_far : (still : Bool) (steps n : ℕ) → steps ≤ 1000000 → n ≡ most_unless still steps → n ≤ 2 ^ 84
most_far still steps n few e = omega (arith, few, e, most_small still steps)

pub totals_small : (most damped bonded : ℕ) (t : Ledger) → most ≤ 2 ^ 84 → damped ≤ 2 ^ 84 → bonded ≤ 2 ^ 84
    → totals_checked most damped bonded t ≡ Ok tt → AreBounded (2 ^ 84) t
totals_small most damped bonded t m d b h =
    let p = totals_pass most damped bonded t h in
    record {
      gravity = weaker most (2 ^ 84) t.gravity m p.gravity;
      damping = weaker damped (2 ^ 84) t.damping d p.damping;
      link = weaker bonded (2 ^ 84) t.link b p.link;
      contact = weaker bonded (2 ^ 84) t.contact b p.contact;
      shape = weaker most (2 ^ 84) t.shape m p.shape;
    }

-- the pin total of a balance is small where all else is
pin_small : (opening : Sum) (t : Ledger) (ps : List Particle) → SumWithin (2 ^ 84) opening → AreBounded (2 ^ 84) t
    → SumWithin (2 ^ 84) (momentum ps) → momentum ps ≡ both_sums opening (all_totals t) → SumWithin (2 ^ 99) t.pin
pin_small opening t ps o b m e =
    let x = pin_axis (momentum ps).x opening.x t.gravity.x t.damping.x t.link.x t.contact.x t.pin.x t.shape.x (2 ^ 84)
    (ap (λ (u : Sum). u.x) e) m.x o.x b.gravity.x b.damping.x b.link.x b.contact.x b.shape.x in
    let y = pin_axis (momentum ps).y opening.y t.gravity.y t.damping.y t.link.y t.contact.y t.pin.y t.shape.y (2 ^ 84)
    (ap (λ (u : Sum). u.y) e) m.y o.y b.gravity.y b.damping.y b.link.y b.contact.y b.shape.y in
    let z = pin_axis (momentum ps).z opening.z t.gravity.z t.damping.z t.link.z t.contact.z t.pin.z t.shape.z (2 ^ 84)
    (ap (λ (u : Sum). u.z) e) m.z o.z b.gravity.z b.damping.z b.link.z b.contact.z b.shape.z in
    record { x = omega (arith, x); y = omega (arith, y); z = omega (arith, z) }

refuted : (b : Bool) → (b ≡ true → ⊥) → false ≡ b
refuted true h = absurd (h refl)
refuted false h = refl

pub unbalanced : (opening : Sum) (t : Ledger) (ps : List Particle) → SumWithin (2 ^ 84) opening → AreBounded (2 ^ 84) t
    → SumWithin (2 ^ 84) (momentum ps) → is_sum_within (2 ^ 99) t.pin ≡ false → false ≡ is_balanced opening t ps
unbalanced opening t ps o b m wide = refuted (is_balanced opening t ps) (λ is.
    let small = pin_small opening t ps o b m (balance_pass opening t ps is) in
    false≢true (sym wide ∙ sum_test (2 ^ 99) t.pin small))

-- all totals leave room for their sums
pub room_for_sums : (t : Ledger) → AreBounded (2 ^ 84) t → is_sum_within (2 ^ 99) t.pin ≡ true → HaveRoom (2 ^ 120) t
room_for_sums t b small =
    let up : (s : Sum) → SumWithin (2 ^ 84) s → SumWithin (2 ^ 120) s = λ s k. weaker (2 ^ 84) (2 ^ 120) s (omega arith) k in
    record {
      gravity = up t.gravity b.gravity;
      damping = up t.damping b.damping;
      link = up t.link b.link;
      contact = up t.contact b.contact;
      shape = up t.shape b.shape;
      pin = weaker (2 ^ 99) (2 ^ 120) t.pin (omega arith) (sum_facts (2 ^ 99) t.pin small);
    }
