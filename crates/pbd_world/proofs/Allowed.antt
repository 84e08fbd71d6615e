-- What the tests of each command make sure of, so that what it does is safe: a case for each command that edits particles, takes
-- steps or sets gravity.
use Rattle.std.proofs.Common.{◌≡◌, refl, sym, ap, ◌∙◌, ℕ, ◌+◌, ◌<◌, ◌≤◌, Bool, true, false, not, length, arith}
use Rattle.std.specs.Prelude.{IsTrue, Option, nat_le, nat_lt, ◌&&◌}
use Rattle.std.specs.List.{AllByRecursion, list_all}
use Rattle.std.proofs.lemmas.Int.{ints}
use Rattle.std.proofs.lemmas.Bool.{and_parts, leb-true, leb-false, ltb-false, false≢true, not-false}
use Rattle.pbd_num.specs.declared.Vec3.{Vec3}
use Rattle.pbd_num.specs.Vectors.{is_within, opposite}
use Rattle.pbd_world.specs.declared.parts.Particle.{Particle}
use Rattle.pbd_world.specs.declared.command.Command.{Command}
use Rattle.pbd_world.specs.declared.command.Command.TheVariants as commands
use Rattle.pbd_world.specs.declared.totals.Class.TheVariants as classes
use Rattle.pbd_world.specs.Ledger.{Sum, zero_sum, sum_plus, both_sums, all_totals}
use Rattle.pbd_world.specs.Particles.{particle_at, velocity}
use Rattle.pbd_world.specs.Valid.{is_valid_particle}
use Rattle.pbd_world.specs.World.{World, parts_of, is_tracked, IsSound}
use Rattle.pbd_world.specs.Meaning.{Edit, Deed, deed, pinning, freeing, placing, pinned_by, refusals}
use Rattle.pbd_world.specs.Meaning.Edit.{OnParticle, OnLink, OnGravity}
use Rattle.pbd_world.specs.Meaning.Deed.{Steps, Edits, Answers}
use Rattle.pbd_world.proofs.MomentumLemmas.{same_sum, part_by, part, added_all}
use Rattle.pbd_world.proofs.ValidLemmas.{at_rest_from}
use Rattle.pbd_world.proofs.PredictGoes.{rests_held, rests_free}
use Rattle.pbd_world.proofs.WorldParts.{formed, IsFit, all_fit}
use Rattle.pbd_world.proofs.OtherParticle.{fit_at, FitsIn}
use Rattle.pbd_world.proofs.Deeds.{NoneHolds}

-- ---- what is to be made sure of

-- there is a particle i, its change fits in, and what is booked is what it has less in the momentum
pub record IsSafeChange (w : World) (i : ℕ) (change : Particle → Particle) (lost : Particle → Option Vec3) : Type 0 where
  pub there : i < length w.particles
  pub fits : FitsIn w i (change (particle_at w.particles i))
  pub even : both_sums (part (change (particle_at w.particles i))) (all_totals w.totals)
      ≡ both_sums (part (particle_at w.particles i)) (all_totals (pinned_by w.totals (lost (particle_at w.particles i))))

abbrev pub IsSafe : World → Edit → Type 0
IsSafe w (OnParticle i change lost) = IsSafeChange w i change lost
IsSafe w (OnLink n) = Unit {0}
IsSafe w (OnGravity g) = IsTrue (is_within w.limit g)

-- so many steps as end by step 1,000,000; a safe edit
abbrev pub IsAllowed : World → Deed → Type 0
IsAllowed w (Steps n) = (1 ≤ n) × (w.steps + n ≤ 1000000)
IsAllowed w (Edits edit) = IsSafe w edit
IsAllowed w (Answers reply) = Unit {0}

-- ---- one particle

there : (n i : ℕ) → nat_le n i ≡ false → i < n
there n i e = leb-false n i e

pub particles_fit : (w : World) → IsSound w → AllByRecursion (IsFit w.limit) w.particles
particles_fit w sound =
    let form = formed (parts_of w) sound.well_formed in
    let counts = and_parts (nat_le (length w.particles) 65536) (list_all (is_valid_particle w.limit) w.particles) form.particles in
    all_fit w.limit w.particles counts.1

fit_of : (w : World) (i : ℕ) → IsSound w → i < length w.particles → IsFit w.limit (particle_at w.particles i)
fit_of w i sound l = fit_at w.limit w.particles i (particles_fit w sound) l

-- what is taken of a momentum and given to the totals
given : (s : Sum) (v : Vec3) → both_sums zero_sum s ≡ both_sums (sum_plus zero_sum v) (sum_plus s (opposite v))
given s v = same_sum (both_sums zero_sum s) (both_sums (sum_plus zero_sum v) (sum_plus s (opposite v))) (omega (arith, ints))
    (omega (arith, ints)) (omega (arith, ints))

-- a particle at rest adds nothing
resting : (s : Sum) (p : Particle) → both_sums (part_by false (velocity (record p { before = p.at }))) s ≡ both_sums zero_sum s
resting s p = same_sum (both_sums (part_by false (velocity (record p { before = p.at }))) s) (both_sums zero_sum s) (omega (arith, ints))
    (omega (arith, ints)) (omega (arith, ints))

pin_safe : (w : World) (i : ℕ) → IsSound w → NoneHolds (refusals w (commands.Pin i)) → IsSafe w (pinning i)
pin_safe w i sound es =
    let l = there (length w.particles) i es.0 in
    let p = particle_at w.particles i in
    let q : Particle = record p { before = p.at; held = true } in
    let fit = fit_of w i sound l in
    let s = all_totals w.totals in
    record {
      there = l;
      fits = record {
        fit = record { at = fit.at; before = fit.at; low = fit.low; high = fit.high };
        weight = refl;
        tracked = λ e. refl;
        rest = rests_held w.tracks i q (is_tracked w.tracks i) refl (λ e. at_rest_from q refl);
      };
      even = given s (velocity p)
          ∙ ap (λ (held : Bool). both_sums (part_by held (velocity p)) (sum_plus s (opposite (velocity p)))) (sym es.1.0)
          ∙ ap (both_sums (part p)) (sym (added_all w.totals classes.Pin (opposite (velocity p))));
    }

unpin_safe : (w : World) (i : ℕ) → IsSound w → NoneHolds (refusals w (commands.Unpin i)) → IsSafe w (freeing i)
unpin_safe w i sound es =
    let named = es.1 in
    let untracked = named.1 in
    let l = there (length w.particles) i es.0 in
    let p = particle_at w.particles i in
    let q : Particle = record p { before = p.at; held = false } in
    let fit = fit_of w i sound l in
    let s = all_totals w.totals in
    record {
      there = l;
      fits = record {
        fit = record { at = fit.at; before = fit.at; low = fit.low; high = fit.high };
        weight = refl;
        tracked = λ e. absurd (false≢true (sym untracked.0 ∙ e));
        rest = rests_free w.tracks i q refl;
      };
      even = resting s p ∙ ap (λ (held : Bool). both_sums (part_by held (velocity p)) s) (sym (not-false p.held named.0));
    }

place_safe : (w : World) (i : ℕ) (to : Vec3) → IsSound w → NoneHolds (refusals w (commands.Move i to)) → IsSafe w (placing i to)
place_safe w i to sound es =
    let named = es.1 in
    let within = named.1 in
    let l = there (length w.particles) i es.0 in
    let p = particle_at w.particles i in
    let q : Particle = record p { at = to; before = to } in
    let fit = fit_of w i sound l in
    let inside = not-false (is_within w.limit to) named.0 in
    let held = not-false p.held within.0 in
    let s = all_totals w.totals in
    record {
      there = l;
      fits = record {
        fit = record { at = inside; before = inside; low = fit.low; high = fit.high };
        weight = refl;
        tracked = λ e. held;
        rest = rests_held w.tracks i q (is_tracked w.tracks i) refl (λ e. at_rest_from q refl);
      };
      even = ap (λ (b : Bool). both_sums (part_by b (velocity q)) s) held ∙ ap (λ (b : Bool). both_sums (part_by b (velocity p)) s) (sym held);
    }

-- ---- the commands

few_steps : (n m : ℕ) → not (nat_le 1 n && nat_le n 100000) ≡ false → nat_lt 1000000 m ≡ false → (1 ≤ n) × (m ≤ 1000000)
few_steps n m count late =
    let both = and_parts (nat_le 1 n) (nat_le n 100000) (not-false (nat_le 1 n && nat_le n 100000) count) in
    (leb-true 1 n both.0, ltb-false 1000000 m late)

-- a command that no test refuses is allowed what it does
pub allowed : (w : World) (c : Command) → IsSound w → NoneHolds (refusals w c) → IsAllowed w (deed c)
allowed w (commands.Step n) sound es = few_steps n (w.steps + n) es.0 es.1.0
allowed w (commands.Pin i) sound es = pin_safe w i sound es
allowed w (commands.Unpin i) sound es = unpin_safe w i sound es
allowed w (commands.Move i to) sound es = place_safe w i to sound es
allowed w (commands.Gravity g) sound es = not-false (is_within w.limit g) es.0
allowed w c sound es = tt
