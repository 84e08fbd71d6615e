use Rattle.std.proofs.Common.{◌≡◌, ℕ, ℤ, true, not, slice_set, refl, sym, ap, ◌∙◌, arith, Bool, if◌then◌else◌}
use Rattle.std.proofs.lemmas.Int.{to_z-of_z}
use Rattle.std.proofs.lemmas.Bool.{not-false}
use Rattle.pbd_num.specs.Vectors.{is_within}
use Rattle.pbd_num.proofs.Sizes.{fits}
use Rattle.pbd_world.specs.declared.parts.Particle.{Particle}
use Rattle.pbd_world.specs.Particles.{particle_at, effective_weight}
use Rattle.pbd_world.specs.World.{is_tracked}
use Rattle.pbd_step.specs.States.{world_of}
use Rattle.pbd_step.proofs.Placing.{place_missing, place_outside, place_free, place_led, place_done, set_down}
use Rattle.pbd_step.proofs.Weighing.{weights_stay}
use Rattle.pbd_step.proofs.state.State.place_held.Goals.{After-within}
use Rattle.pbd_step.proofs.state.State.place_held.Goals as goal

-- whether the place is within the limit of the world
tested : (g : _) (c : After-within g) → c.within.result ≡ is_within c.args.self.now.store.limit c.args.to
tested g c =
    let limit = fits c.limit.result (omega (arith, c.limit.ensures.high)) in
    let test : c.within.result ≡ is_within c.limit.result c.args.to = simp to_z-of_z at c.within.ensures.test in
    test ∙ ap (λ (l : ℤ). is_within l c.args.to) c.limit.ensures.value

pub returns-in_default-clause-obeys : goal.returns-in_default-clause-obeys
returns-in_default-clause-obeys g c = record {
  outcome =
      place_missing (world_of c.args.setting.now c.args.self.now) c.args.i c.args.to c.in_default.ensures.missing;
  kept = refl;
}

pub returns-then-not-within-clause-obeys : goal.returns-then-not-within-clause-obeys
returns-then-not-within-clause-obeys g c =
    let w = world_of c.args.setting.now c.args.self.now in
    let within = sym (tested g (goal.at.returns-then-not-within-clause-obeys g c).After-within) ∙ c.if-not-within.true in
    record { outcome = place_outside w c.args.i c.args.to c.in-Some.ensures.there.1 within; kept = refl }

pub returns-then-not-p-clause-obeys : goal.returns-then-not-p-clause-obeys
returns-then-not-p-clause-obeys g c =
    let w = world_of c.args.setting.now c.args.self.now in
    let there = c.in-Some.ensures.there in
    let within = sym (tested g (goal.at.returns-then-not-p-clause-obeys g c).After-within) ∙ c.if-not-within.false in
    let p_is = c.in-Some.ensures.particle in
    record {
      outcome = place_free w c.args.i c.args.to there.1 within (sym (ap (λ (p : Particle). not p.held) p_is) ∙ c.if-not-p.true);
      kept = refl;
    }

pub returns-then-is_led-clause-obeys : goal.returns-then-is_led-clause-obeys
returns-then-is_led-clause-obeys g c =
    let w = world_of c.args.setting.now c.args.self.now in
    let there = c.in-Some.ensures.there in
    let within = sym (tested g (goal.at.returns-then-is_led-clause-obeys g c).After-within) ∙ c.if-not-within.false in
    let p_is = c.in-Some.ensures.particle in
    let led = sym (c.is_led.ensures ∙ ap (λ (n : ℕ). is_tracked w.tracks n) there.0) ∙ c.if-is_led.true in
    record {
      outcome = place_led w c.args.i c.args.to there.1 within (sym (ap (λ (p : Particle). not p.held) p_is) ∙ c.if-not-p.false) led;
      kept = refl;
    }

pub returns-clause-obeys : goal.returns-clause-obeys
returns-clause-obeys g c =
    let w = world_of c.args.setting.now c.args.self.now in
    let there = c.in-Some.ensures.there in
    let within = sym (tested g (goal.at.returns-clause-obeys g c).After-within) ∙ c.if-not-within.false in
    let p_is = c.in-Some.ensures.particle in
    let led = sym (c.is_led.ensures ∙ ap (λ (n : ℕ). is_tracked w.tracks n) there.0) ∙ c.if-is_led.false in
    let down : c.resting.result ≡ set_down w c.args.i c.args.to = c.resting.ensures
    ∙ ap (λ (p : Particle). record { at = c.args.to; before = c.args.to; weight = p.weight; held = true }) p_is in
    let set = c.set.ensures.particles ∙ (λ k. slice_set w.particles (there.0 k) (down k)) in
    record {
      outcome = place_done w c.args.i c.args.to c.set.new.self.limit c.set.new.self.particles there.1 within
          (sym (ap (λ (p : Particle). not p.held) p_is) ∙ c.if-not-p.false) led c.set.ensures.limit set;
      kept = search;
    }

-- a held particle weighs nothing, wherever it is put
pub returns-clause-weights : goal.returns-clause-weights
returns-clause-weights g c =
    let p = c.in-Some.p in
    let held = c.in-Some.ensures.particle ∙ ap (λ (n : ℕ). particle_at c.args.self.now.store.particles n) (sym c.in-Some.ensures.there.0) in
    let nothing = ap (λ (b : Bool). if b then 0 else p.weight) (not-false p.held c.if-not-p.false) in
    weights_stay c.args.self.now.store.particles c.in-Some.n c.resting.result c.requires.weights
    (ap effective_weight c.resting.ensures ∙ sym nothing ∙ ap effective_weight held) c.set.ensures.particles
