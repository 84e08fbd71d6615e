use Rattle.std.proofs.Common.{◌≡◌, sym, ap, ◌∙◌, ℕ, ◌+◌, ◌<◌, ◌≤◌, length, drop, arith}
use Rattle.std.specs.List.{flat_map}
use Rattle.pbd_world.specs.declared.parts.Particle.{Particle}
use Rattle.pbd_world.specs.Particles.{particle_at}
use Rattle.pbd_state.specs.Checksum.{particle_words, with_words}
use Rattle.pbd_state.proofs.Folding.{particle_next, particles_end}
use Rattle.pbd_state.proofs.summing.of_particles.Goals as goal

pub loop-i-preserved : goal.loop-i-preserved
loop-i-preserved g c =
    let ps = c.args.shown.now.particles in
    let i = c.loop-i.i in
    let lt : i < length ps = omega (arith, c.loop-i-test.true, c.particles-i-end.ensures.value) in
    let added : c.with_particle-sum.result ≡ with_words c.loop-i.sum (particle_words (particle_at ps i)) =
    c.with_particle-sum.ensures ∙ ap (λ (p : Particle). with_words c.loop-i.sum (particle_words p)) c.particle.ensures.value in
    record {
      whole = ap (λ (s : ℕ). with_words s (flat_map particle_words (drop (i + 1) ps))) added ∙ sym (particle_next ps i c.loop-i.sum lt)
          ∙ c.loop-i.invariant.whole;
      cost = omega (arith, c.particle.ensures.cost, c.loop-i.invariant.cost);
    }

pub returns-clause-value : goal.returns-clause-value
returns-clause-value g c =
    let ps = c.args.shown.now.particles in
    let all : length ps ≤ c.loop-i.i = omega (arith, c.loop-i-test.false, c.particles-i-end.ensures.value) in
    sym (particles_end ps c.loop-i.i c.loop-i.sum all) ∙ c.loop-i.invariant.whole

pub returns-clause-cost : goal.returns-clause-cost
returns-clause-cost g c =
    omega (arith, c.loop-i-test.false, c.loop-i.auto.i-end, c.particles-i-end.ensures.value, c.loop-i.invariant.cost)
