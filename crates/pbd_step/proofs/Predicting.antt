-- Particles that are predicted, from what a store that lets them fly tells.
use Rattle.std.proofs.Common.{◌≡◌, refl, sym, ap, ◌∙◌, ℕ, zero, suc, ◌+◌, ◌^◌, ◌<◌, Bool, true, false, not, if◌then◌else◌, IsTrue}
use Rattle.std.proofs.Common.{List, [], ◌∷◌, length, map, fold, arith, ℤ, pos, negsuc, neg_ℤ, ◌+ℤ◌, ◌*ℤ◌, ◌≤ℤ◌, unsigned_abs, Option, Some, None}
use Rattle.std.proofs.Common.{Result, Ok, Err}
use Rattle.std.proofs.lemmas.Int.{ints}
use Rattle.std.proofs.lemmas.Bool.{false≢true}
use Rattle.pbd_num.specs.declared.Vec3.{Vec3}
use Rattle.pbd_num.specs.Vectors.{Within, zero_vector, plus, opposite, is_within}
use Rattle.pbd_num.proofs.Ranges.{within_facts}
use Rattle.pbd_num.proofs.Sizes.{size-neg}
use Rattle.pbd_world.specs.declared.parts.Particle.{Particle}
use Rattle.pbd_world.specs.declared.totals.Class.TheVariants as classes
use Rattle.pbd_world.specs.Ledger.{Ledger, Entry, added, booked, HaveRoom}
use Rattle.pbd_world.specs.Outcomes.{◌>>=◌, one_more, each_from}
use Rattle.pbd_world.specs.Particles.{Moved, all_moved, particle_at, is_free, effective_weight}
use Rattle.pbd_world.specs.Shapes.{stays}
use Rattle.pbd_world.specs.Step.{attached, flown, if_within, predicted, predict}
use Rattle.pbd_world.specs.World.{World, parts_of, IsSound}
use Rattle.pbd_world.proofs.WorldParts.{formed, limit_of}
use Rattle.pbd_world.proofs.Rooms.{room_left, room_at}
use Rattle.pbd_store.specs.declared.flight.Forces.{Forces}
use Rattle.pbd_store.specs.declared.flight.Flown.{Flown}
use Rattle.pbd_store.specs.Flying.{losses_at, places_at, pull_at, after_flight, lost_by, stays_in, one_if, sum_below, AllStay, LeavesFirst, IsSmall}
use Rattle.pbd_step.specs.Predicting.{unled, times}
use Rattle.pbd_step.proofs.Mild.{sound_mild}
use Rattle.std.proofs.Math.IntN.{+ℤ_assoc}
use Rattle.pbd_num.proofs.VectorSizes.{plus_nothing}
use Rattle.pbd_world.proofs.MovedLemmas.{zero_term}

abbrev pub particles_of : List Moved → List Particle
particles_of ms = map {A = Moved} {B = Particle} (λ m. m.particle) ms

-- the forces of a world
abbrev pub air_of : World → Forces
air_of w = record { damping = w.damping; gravity = w.gravity; limit = w.limit }

-- ---- one particle

-- the entries of a particle that is free, or held
abbrev entries_by : World → Bool → Vec3 → List Entry
entries_by w free loss = if free then (classes.Gravity, w.gravity) ∷ (classes.Damping, opposite loss) ∷ [] else []

-- a particle after its flight, with its entries
abbrev moved_by : World → Particle → Bool → Moved
moved_by w p free = record {
  particle = record p { at = places_at w.damping w.gravity free p.at p.before; before = p.at };
  entries = entries_by w free (losses_at w.damping free p.at p.before);
}

abbrev moved_of : World → Particle → Moved
moved_of w p = moved_by w p (is_free p)

module _ (w : World) (i : ℕ) (p : Particle) where
  by_hold : (held : Bool) → p.held ≡ held
      → predicted (unled w) i p ≡ (if held then Some (stays (attached (unled w) i p)) else if_within w.limit (flown (unled w) p))
  by_hold held h = ap (λ (b : Bool). if b then Some (stays (attached (unled w) i p)) else if_within w.limit (flown (unled w) p)) h

  one_stays : (held : Bool) → p.held ≡ held → is_within w.limit (places_at w.damping w.gravity (not held) p.at p.before) ≡ true
      → predicted (unled w) i p ≡ Some (moved_by w p (not held))
  one_stays true h inside = by_hold true h
  one_stays false h inside = by_hold false h ∙ ap (λ (b : Bool). if b then Some (flown (unled w) p) else None) inside

  one_leaves : (held : Bool) → p.held ≡ held → IsTrue (is_within w.limit p.at)
      → is_within w.limit (places_at w.damping w.gravity (not held) p.at p.before) ≡ false → predicted (unled w) i p ≡ None
  one_leaves true h inside outside = absurd (false≢true (sym outside ∙ inside))
  one_leaves false h inside outside = by_hold false h ∙ ap (λ (b : Bool). if b then Some (flown (unled w) p) else None) outside

-- ---- one particle after another

-- all stay within the limit
each_stays : (w : World) (n : ℕ) (ps : List Particle) → ((i : ℕ) → i < length ps → IsTrue (stays_in (air_of w) (particle_at ps i)))
    → each_from n (predicted (unled w)) ps ≡ Ok (map (moved_of w) ps)
each_stays w n [] h = refl
each_stays w n (p ∷ ps) h =
    (λ i. one_more n (one_stays w n p p.held refl (h 0 (omega arith)) i)
    (each_stays w (n + 1) ps (λ k lt. h (suc k) (omega (arith, lt))) i))

-- particle i is the first that would leave it
each_leaves : (w : World) (n : ℕ) (ps : List Particle) (i : ℕ)
    → ((j : ℕ) → j < length ps → IsTrue (is_within w.limit (particle_at ps j).at)) → i < length ps
    → ((j : ℕ) → j < i → IsTrue (stays_in (air_of w) (particle_at ps j))) → stays_in (air_of w) (particle_at ps i) ≡ false
    → each_from n (predicted (unled w)) ps ≡ Err (n + i)
each_leaves w n [] i inside one before leaves = absurd (omega arith)
each_leaves w n (p ∷ ps) zero inside one before leaves =
    ap (λ (o : Option Moved). one_more n o (each_from (n + 1) (predicted (unled w)) ps))
    (one_leaves w n p p.held refl (inside 0 (omega arith)) leaves)
    ∙ ap (λ (m : ℕ). Err m) (omega arith)
each_leaves w n (p ∷ ps) (suc i) inside one before leaves =
    (λ k. one_more n (one_stays w n p p.held refl (before 0 (omega arith)) k)
    (each_leaves w (n + 1) ps i (λ j lt. inside (suc j) (omega (arith, lt))) (omega (arith, one))
    (λ j lt. before (suc j) (omega (arith, lt))) leaves k))
    ∙ ap (λ (m : ℕ). Err m) (omega arith)

-- ---- what is booked

-- the sum at each number below n + 1, from its first
sum_first : (f : ℕ → ℤ) (n : ℕ) → sum_below f (suc n) ≡ f 0 +ℤ sum_below (λ j. f (suc j)) n
unfolding sum_below
sum_first f zero = omega (arith, ints)
sum_first f (suc n) = let rest = sum_first f n in omega (arith, ints, rest)

abbrev free_in : List Particle → ℤ
free_in ps = sum_below (λ i. one_if (is_free (particle_at ps i))) (length ps)

abbrev loss_in : World → List Particle → (Vec3 → ℤ) → ℤ
loss_in w ps axis = sum_below (λ i. axis (lost_by (air_of w) (particle_at ps i))) (length ps)

-- so many times what gravity adds, and what damping takes
abbrev pulled_in : World → List Particle → Vec3
pulled_in w ps = times w.gravity (free_in ps)

abbrev lost_in : World → List Particle → Vec3
lost_in w ps = record { x = loss_in w ps (λ v. v.x); y = loss_in w ps (λ v. v.y); z = loss_in w ps (λ v. v.z) }

abbrev pub with_both : Ledger → Vec3 → Vec3 → Ledger
with_both t pulled lost = added (added t classes.Gravity pulled) classes.Damping (opposite lost)

once_more : (g n : ℤ) → g +ℤ g *ℤ n ≡ g *ℤ (pos 1 +ℤ n)
once_more (pos a) (pos b) = omega (arith, ints)
once_more (negsuc a) (pos b) = omega (arith, ints)
once_more (pos a) (negsuc zero) = omega (arith, ints)
once_more (negsuc a) (negsuc zero) = omega (arith, ints)
once_more (pos a) (negsuc (suc b)) =
    let less : negsuc b ≡ pos 1 +ℤ negsuc (suc b) = omega (arith, ints) in
    let first : pos a +ℤ pos a *ℤ negsuc (suc b) ≡ pos a *ℤ negsuc b = omega (arith, ints) in
    first ∙ ap (λ (z : ℤ). pos a *ℤ z) less
once_more (negsuc a) (negsuc (suc b)) =
    let less : negsuc b ≡ pos 1 +ℤ negsuc (suc b) = omega (arith, ints) in
    let first : negsuc a +ℤ negsuc a *ℤ negsuc (suc b) ≡ negsuc a *ℤ negsuc b = omega (arith, ints) in
    first ∙ ap (λ (z : ℤ). negsuc a *ℤ z) less

pulled_more : (g n : ℤ) (b : Bool) → pull_at g b +ℤ g *ℤ n ≡ g *ℤ (one_if b +ℤ n)
pulled_more g n true = once_more g n
pulled_more g n false =
    let none : pos 0 +ℤ g *ℤ n ≡ g *ℤ n = omega (arith, ints) in
    let same : n ≡ pos 0 +ℤ n = omega (arith, ints) in
    none ∙ ap (λ (m : ℤ). g *ℤ m) same

-- the entries of one particle more
one_booked : (w : World) (t : Ledger) (pulled lost loss : Vec3) (free : Bool) → (free ≡ false → loss ≡ zero_vector)
    → booked (with_both t pulled lost) (entries_by w free loss)
    ≡ with_both t (plus pulled (record { x = pull_at w.gravity.x free; y = pull_at w.gravity.y free; z = pull_at w.gravity.z free }))
    (plus lost loss)
one_booked w t pulled lost loss true none = (λ i. record t {
  gravity = record {
    x = +ℤ_assoc t.gravity.x pulled.x w.gravity.x i;
    y = +ℤ_assoc t.gravity.y pulled.y w.gravity.y i;
    z = +ℤ_assoc t.gravity.z pulled.z w.gravity.z i;
  };
  damping = record { x = taken t.damping.x lost.x loss.x i; y = taken t.damping.y lost.y loss.y i; z = taken t.damping.z lost.z loss.z i };
})
  where
    taken : (a b c : ℤ) → (a +ℤ neg_ℤ b) +ℤ neg_ℤ c ≡ a +ℤ neg_ℤ (b +ℤ c)
    taken a b c = omega (arith, ints)
one_booked w t pulled lost loss false none = λ i. with_both t (sym (plus_nothing pulled) i)
    ((sym (plus_nothing lost) ∙ ap (plus lost) (sym (none refl))) i)

-- the sums of one particle and of those behind it
pulled_first : (w : World) (p : Particle) (ps : List Particle) (a : Vec3)
    → plus (plus a (record { x = pull_at w.gravity.x (is_free p); y = pull_at w.gravity.y (is_free p); z = pull_at w.gravity.z (is_free p) }))
    (pulled_in w ps) ≡ plus a (pulled_in w (p ∷ ps))
pulled_first w p ps a = λ i. record { x = axis a.x w.gravity.x i; y = axis a.y w.gravity.y i; z = axis a.z w.gravity.z i }
  where
    axis : (b g : ℤ) → (b +ℤ pull_at g (is_free p)) +ℤ g *ℤ free_in ps ≡ b +ℤ g *ℤ free_in (p ∷ ps)
    axis b g = +ℤ_assoc b (pull_at g (is_free p)) (g *ℤ free_in ps) ∙ ap (λ (z : ℤ). b +ℤ z) (pulled_more g (free_in ps) (is_free p)
        ∙ ap (λ (n : ℤ). g *ℤ n) (sym (sum_first (λ i. one_if (is_free (particle_at (p ∷ ps) i))) (length ps))))

lost_first : (w : World) (p : Particle) (ps : List Particle) (a : Vec3)
    → plus (plus a (lost_by (air_of w) p)) (lost_in w ps) ≡ plus a (lost_in w (p ∷ ps))
lost_first w p ps a = λ i. record { x = axis a.x (λ v. v.x) i; y = axis a.y (λ v. v.y) i; z = axis a.z (λ v. v.z) i }
  where
    axis : (b : ℤ) (f : Vec3 → ℤ) → (b +ℤ f (lost_by (air_of w) p)) +ℤ loss_in w ps f ≡ b +ℤ loss_in w (p ∷ ps) f
    axis b f = +ℤ_assoc b (f (lost_by (air_of w) p)) (loss_in w ps f) ∙ ap (λ (z : ℤ). b +ℤ z)
        (sym (sum_first (λ i. f (lost_by (air_of w) (particle_at (p ∷ ps) i))) (length ps)))

no_loss : (w : World) (p : Particle) (free : Bool) → free ≡ false → losses_at w.damping free p.at p.before ≡ zero_vector
no_loss w p free e = ap (λ (b : Bool). losses_at w.damping b p.at p.before) e

-- the entries of all
all_booked : (w : World) (ps : List Particle) (t : Ledger) (pulled lost : Vec3)
    → fold {A = Moved} (λ u m. booked u m.entries) (with_both t pulled lost) (map (moved_of w) ps)
    ≡ with_both t (plus pulled (pulled_in w ps)) (plus lost (lost_in w ps))
unfolding sum_below
all_booked w [] t pulled lost = (λ i. with_both t (none pulled i) (sym (plus_nothing lost) i))
  where
    pull : (a g : ℤ) → a ≡ a +ℤ g *ℤ pos 0
    pull a g = omega (arith, ints)

    none : (v : Vec3) → v ≡ plus v (times w.gravity (pos 0))
    none v = λ i. record { x = pull v.x w.gravity.x i; y = pull v.y w.gravity.y i; z = pull v.z w.gravity.z i }
all_booked w (p ∷ ps) t pulled lost =
    ap (λ (u : Ledger). fold {A = Moved} (λ u m. booked u m.entries) u (map (moved_of w) ps))
    (one_booked w t pulled lost (lost_by (air_of w) p) (is_free p) (no_loss w p (is_free p)))
    ∙ all_booked w ps t (plus pulled (record {
      x = pull_at w.gravity.x (is_free p);
      y = pull_at w.gravity.y (is_free p);
      z = pull_at w.gravity.z (is_free p);
    })) (plus lost (lost_by (air_of w) p))
    ∙ (λ i. with_both t (pulled_first w p ps pulled i) (lost_first w p ps lost i))

flown_particles : (w : World) (ps : List Particle) → particles_of (map (moved_of w) ps) ≡ map (after_flight (air_of w)) ps
flown_particles w [] = refl
flown_particles w (p ∷ ps) = ap (λ (qs : List Particle). after_flight (air_of w) p ∷ qs) (flown_particles w ps)

-- ---- the whole

-- where all stay, all are predicted, and what gravity and damping do is booked at once
pub predicted_all : (w : World) (flown : Flown) (qs : List Particle) (u : Ledger) → AllStay (air_of w) w.particles flown
    → qs ≡ map (after_flight (air_of w)) w.particles
    → u ≡ with_both w.totals (times w.gravity flown.free) flown.lost
    → predict (unled w) ≡ Ok (record { particles = qs; totals = u })
unfolding predict
predicted_all w flown qs u h eq eu =
    let ps = w.particles in
    ap (λ (r : Result (List Moved) ℕ). r >>= λ ms. Ok (all_moved w.totals ms)) (each_stays w 0 ps h.within)
    ∙ (λ i. Ok (record { particles = (flown_particles w ps ∙ sym eq) i; totals = (books ∙ sym eu) i }))
  where
    start : (t : Ledger) → t ≡ with_both t zero_vector zero_vector
    start t = λ i. record t {
      gravity = record { x = zero_term t.gravity.x i; y = zero_term t.gravity.y i; z = zero_term t.gravity.z i };
      damping = record { x = zero_term t.damping.x i; y = zero_term t.damping.y i; z = zero_term t.damping.z i };
    }

    from_none : (v : Vec3) → plus zero_vector v ≡ v
    from_none v = λ i. record { x = axis v.x i; y = axis v.y i; z = axis v.z i }
      where
        axis : (a : ℤ) → pos 0 +ℤ a ≡ a
        axis a = omega (arith, ints)

    books : fold {A = Moved} (λ u m. booked u m.entries) w.totals (map (moved_of w) w.particles)
        ≡ with_both w.totals (times w.gravity flown.free) flown.lost
    books = ap (λ (t : Ledger). fold {A = Moved} (λ u m. booked u m.entries) t (map (moved_of w) w.particles)) (start w.totals)
        ∙ all_booked w w.particles w.totals zero_vector zero_vector
        ∙ (λ i. with_both w.totals ((from_none (pulled_in w w.particles) ∙ ap (times w.gravity) (sym h.free)) i)
        ((from_none (lost_in w w.particles) ∙ sym h.lost) i))

-- where one would leave, the first is told
pub predicted_out : (w : World) (i : ℕ) → pos 0 ≤ℤ w.limit
    → ((j : ℕ) → j < length w.particles → Within (unsigned_abs w.limit) (particle_at w.particles j).at)
    → LeavesFirst (air_of w) w.particles i → predict (unled w) ≡ Err i
unfolding predict
predicted_out w i low inside h =
    ap (λ (r : Result (List Moved) ℕ). r >>= λ ms. Ok (all_moved w.totals ms))
    (each_leaves w 0 w.particles i (λ j lt. (within_facts w.limit (particle_at w.particles j).at low).1 (inside j lt)) h.one h.before
    h.leaves)
    ∙ ap (λ (m : ℕ). Err m) (omega arith)

-- what flies weighs what it did
pub flown_weights : (forces : Forces) (ps : List Particle) → map effective_weight (map (after_flight forces) ps) ≡ map effective_weight ps
flown_weights forces [] = refl
flown_weights forces (p ∷ ps) = ap (λ (ws : List ℕ). effective_weight p ∷ ws) (flown_weights forces ps)

-- ---- room

pub booked_room : (t : Ledger) (pulled lost : Vec3) (n : ℕ) → Within (2 ^ 45) pulled → Within (2 ^ 46) lost → HaveRoom n t
    → HaveRoom (n + 2 ^ 47) (with_both t pulled lost)
booked_room t pulled lost n hp hl h =
    let first : HaveRoom (n + 2 ^ 45) (added t classes.Gravity pulled) = room_left t classes.Gravity pulled n (2 ^ 45) h hp in
    room_at (n + 2 ^ 47) (omega arith) (room_left (added t classes.Gravity pulled) classes.Damping (opposite lost) (n + 2 ^ 45) (2 ^ 46) first
    (record {
      x = omega (arith, size-neg lost.x, hl.x);
      y = omega (arith, size-neg lost.y, hl.y);
      z = omega (arith, size-neg lost.z, hl.z);
    }))

-- ---- what acts on the particles of a sound world

pub sound_air : (w : World) → IsSound w → IsSmall (air_of w)
sound_air w sound =
    let lim = limit_of w (formed (parts_of w) sound.well_formed) in
    let mild = sound_mild w sound in
    record { damping = mild.damping; gravity = mild.gravity; low = lim.low; high = lim.high }
