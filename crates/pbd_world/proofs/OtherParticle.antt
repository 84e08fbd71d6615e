-- A sound world with another particle in place of one.
use Rattle.std.proofs.Common.{◌≡◌, refl, sym, ap, ◌∙◌, ℕ, zero, suc, ◌+◌, ◌<◌, true, not, ◌||◌, List, [], ◌∷◌, length}
use Rattle.std.proofs.Common.{length-set, arith, ℤ, inl, inr}
use Rattle.std.specs.Prelude.{IsTrue, nat_le, ◌==◌, slice_set as set}
use Rattle.std.specs.List.{AllByRecursion, AllZip, list_all, enumerate_from}
use Rattle.std.proofs.lemmas.Bool.{and_parts, and_from, cases_eq, eq-eqb}
use Rattle.std.proofs.lemmas.List.{get_or-set_same, get_or-set_other}
use Rattle.pbd_world.specs.declared.parts.Particle.{Particle}
use Rattle.pbd_world.specs.declared.parts.Track.{Track}
use Rattle.pbd_world.specs.Ledger.{Ledger}
use Rattle.pbd_world.specs.Particles.{no_particle, particle_at}
use Rattle.pbd_world.specs.Momentum.{IsBalanced}
use Rattle.pbd_world.specs.Valid.{is_valid_particle, is_at_rest, are_tracked_held}
use Rattle.pbd_world.specs.World.{World, parts_of, is_tracked, IsSound, AreBounded, unchanging, AreOfOneScene}
use Rattle.pbd_world.proofs.KeptLemmas.{zip_set}
use Rattle.pbd_world.proofs.PredictGoes.{rests, all_rest}
use Rattle.pbd_world.proofs.SameShape.{all_blank, weights_same, have_weight, still_formed}
use Rattle.pbd_world.proofs.WorldParts.{formed, IsFit, all_fit}
use Rattle.std.proofs.Math.Bool.{or-true}

fit_set : (limit : ℤ) (ps : List Particle) (i : ℕ) (q : Particle) → AllByRecursion (IsFit limit) ps → IsFit limit q
    → AllByRecursion (IsFit limit) (set ps i q)
fit_set limit [] zero q h k = tt
fit_set limit [] (suc i) q h k = tt
fit_set limit (p ∷ ps) zero q h k = (k, h.1)
fit_set limit (p ∷ ps) (suc i) q h k = (h.0, fit_set limit ps i q h.1 k)

pub fit_at : (limit : ℤ) (ps : List Particle) (i : ℕ) → AllByRecursion (IsFit limit) ps → i < length ps → IsFit limit (particle_at ps i)
fit_at limit [] i h l = absurd (omega (arith, l))
fit_at limit (p ∷ ps) zero h l = h.0
fit_at limit (p ∷ ps) (suc i) h l = fit_at limit ps i h.1 (omega (arith, l))

weight_refl : (ps : List Particle) → AllZip {A = Particle} {B = Particle} (λ p q. q.weight ≡ p.weight) ps ps
weight_refl [] = tt
weight_refl (p ∷ ps) = (refl, weight_refl ps)

-- a held particle where the track's is
pub held_set : (ps : List Particle) (i k : ℕ) (q : Particle) → (k ≡ i → q.held ≡ true) → (particle_at ps k).held ≡ true → i < length ps
    → (particle_at (set ps i q) k).held ≡ true
held_set ps i k q h e l = elim (cases_eq k i) [
  | inl is ↦ ap (λ n. (particle_at (set ps i q) n).held) is ∙ ap (λ (p : Particle). p.held) (get_or-set_same ps i q no_particle l) ∙ h is
  | inr other ↦ ap (λ (p : Particle). p.held) (get_or-set_other ps i k q no_particle other) ∙ e
]

tracked_set : (tracks : List Track) (ps : List Particle) (i : ℕ) (q : Particle) → i < length ps
    → (is_tracked tracks i ≡ true → q.held ≡ true) → IsTrue (are_tracked_held tracks ps) → IsTrue (are_tracked_held tracks (set ps i q))
tracked_set [] ps i q l h k = refl
tracked_set (t ∷ ts) ps i q l h k =
    let parts = and_parts (particle_at ps t.particle).held (are_tracked_held ts ps) k in
    and_from _ _
    (held_set ps i t.particle q (λ e. h (ap (λ b. b || is_tracked ts i) (eq-eqb t.particle i e))) parts.0 l)
    (tracked_set ts ps i q l (λ e. h (ap (λ b. (t.particle == i) || b) e ∙ or-true (t.particle == i))) parts.1)

rest_to : (tracks : List Track) (i : ℕ) (ps : List Particle)
    → IsTrue (list_all {X = ℕ × Particle} (λ n. not n.1.held || is_tracked tracks n.0 || is_at_rest n.1) (enumerate_from i ps))
    → all_rest tracks i ps ≡ true
rest_to tracks i [] h = refl
rest_to tracks i (p ∷ ps) h =
    let parts = and_parts (rests tracks i p) (list_all {X = ℕ × Particle} (λ n. not n.1.held || is_tracked tracks n.0 || is_at_rest n.1)
    (enumerate_from (i + 1) ps)) h in
    and_from _ _ parts.0 (rest_to tracks (i + 1) ps parts.1)

rest_from : (tracks : List Track) (i : ℕ) (ps : List Particle) → all_rest tracks i ps ≡ true
    → IsTrue (list_all {X = ℕ × Particle} (λ n. not n.1.held || is_tracked tracks n.0 || is_at_rest n.1) (enumerate_from i ps))
rest_from tracks i [] h = refl
rest_from tracks i (p ∷ ps) h = let parts = and_parts (rests tracks i p) (all_rest tracks (i + 1) ps) h in
    and_from _ _ parts.0 (rest_from tracks (i + 1) ps parts.1)

rest_set : (tracks : List Track) (n i k : ℕ) (ps : List Particle) (q : Particle) → k ≡ n + i → rests tracks k q ≡ true
    → all_rest tracks n ps ≡ true → all_rest tracks n (set ps i q) ≡ true
rest_set tracks n zero k [] q e r h = refl
rest_set tracks n (suc i) k [] q e r h = refl
rest_set tracks n zero k (p ∷ ps) q e r h =
    let parts = and_parts (rests tracks n p) (all_rest tracks (n + 1) ps) h in
    let is : k ≡ n = omega (arith, e) in
    and_from _ _ (ap (λ m. rests tracks m q) (sym is) ∙ r) parts.1
rest_set tracks n (suc i) k (p ∷ ps) q e r h =
    let parts = and_parts (rests tracks n p) (all_rest tracks (n + 1) ps) h in
    and_from _ _ parts.0 (rest_set tracks (n + 1) i k ps q (omega (arith, e)) r parts.1)

-- totals that agree in the five classes which steps alone change
pub record AgreeButPin (t u : Ledger) : Type 0 where
  pub gravity : u.gravity ≡ t.gravity
  pub damping : u.damping ≡ t.damping
  pub link : u.link ≡ t.link
  pub contact : u.contact ≡ t.contact
  pub shape : u.shape ≡ t.shape

agree_bounded : (b : ℕ) (t u : Ledger) → AgreeButPin t u → AreBounded b t → AreBounded b u
agree_bounded b t u a h = record {
  gravity = rw a.gravity h.gravity;
  damping = rw a.damping h.damping;
  link = rw a.link h.link;
  contact = rw a.contact h.contact;
  shape = rw a.shape h.shape;
}

pub agree_with_itself : (t : Ledger) → AgreeButPin t t
agree_with_itself t = record { gravity = refl; damping = refl; link = refl; contact = refl; shape = refl }

-- what a particle has to be in place of particle i
pub record FitsIn (w : World) (i : ℕ) (q : Particle) : Type 0 where
  pub fit : IsFit w.limit q
  pub weight : q.weight ≡ (particle_at w.particles i).weight
  pub tracked : is_tracked w.tracks i ≡ true → q.held ≡ true
  pub rest : rests w.tracks i q ≡ true

abbrev pub other : World → ℕ → Particle → Ledger → World
other w i q t = record w { particles = set w.particles i q; totals = t }

pub set_sound : (w : World) (i : ℕ) (q : Particle) (t : Ledger) → IsSound w → i < length w.particles → FitsIn w i q → AgreeButPin w.totals t
    → IsBalanced w.opening t (set w.particles i q) → IsSound (other w i q t)
set_sound w i q t sound l f agree balance =
    let form = formed (parts_of w) sound.well_formed in
    let ps = w.particles in
    let qs = set ps i q in
    let counts = and_parts (nat_le (length ps) 65536) (list_all (is_valid_particle w.limit) ps) form.particles in
    let weights = zip_set {A = Particle} {B = Particle} (λ p r. r.weight ≡ p.weight) ps ps i no_particle q (weight_refl ps)
    (λ k. f.weight) in
    record {
      well_formed = still_formed (parts_of w) qs w.links w.gravity form (length-set ps i q)
          (fit_set w.limit ps i q (all_fit w.limit ps counts.1) f.fit) refl form.gravity;
      tracked = tracked_set w.tracks ps i q l f.tracked sound.tracked;
      at_rest = rest_from w.tracks 0 qs (rest_set w.tracks 0 i i ps q (omega arith) f.rest (rest_to w.tracks 0 ps sound.at_rest));
      steps = sound.steps;
      contacts = sound.contacts;
      bounded = agree_bounded _ w.totals t agree sound.bounded;
      opening = sound.opening;
      balanced = balance;
      undamped = λ e. agree.damping ∙ sound.undamped e;
      one_weight = λ weight all. let old = sound.one_weight weight (have_weight weight ps qs weights all) in
          (agree.link ∙ old.0, agree.contact ∙ old.1);
    }

pub set_scene : (w : World) (i : ℕ) (q : Particle) (t : Ledger) → i < length w.particles → q.weight ≡ (particle_at w.particles i).weight
    → AreOfOneScene w (other w i q t)
set_scene w i q t l e =
    let weights = zip_set {A = Particle} {B = Particle} (λ p r. r.weight ≡ p.weight) w.particles w.particles i no_particle q
    (weight_refl w.particles) (λ k. e) in
    let same : all_blank w.particles ≡ all_blank (set w.particles i q) = weights_same w.particles (set w.particles i q) weights in
    λ j. record (unchanging w) { particles = same j }
