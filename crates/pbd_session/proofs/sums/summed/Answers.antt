use Rattle.std.proofs.Common.{◌<◌, ◌∙◌, length, ap, arith}
use Rattle.pbd_num.specs.Vectors.{plus}
use Rattle.pbd_world.specs.declared.parts.Particle.{Particle}
use Rattle.pbd_world.specs.Particles.{no_particle}
use Rattle.pbd_session.proofs.Summing.{sum_begins, sum_ends, sum_next}
use Rattle.pbd_session.proofs.sums.summed.Goals as goal

pub loop-i-init : goal.loop-i-init
loop-i-init g c = record {
  at = sum_begins (λ p. p.at) c.args.solver.now.world.particles;
  before = sum_begins (λ p. p.before) c.args.solver.now.world.particles;
  cost = omega arith;
}

pub loop-i-preserved : goal.loop-i-preserved
loop-i-preserved g c =
    let ps = c.args.solver.now.world.particles in
    let lt : c.loop-i.i < length ps = omega (arith, c.loop-i-test.true, c.particles-i-end.ensures.value) in
    let at_is = c.plus-at.ensures.value ∙ ap (λ (p : Particle). plus c.loop-i.at p.at) c.particle-particle.ensures.value in
    let before_is = c.plus-before.ensures.value ∙ ap (λ (p : Particle). plus c.loop-i.before p.before) c.particle-particle.ensures.value in
    record {
      at = sum_next (λ p. p.at) ps c.loop-i.i no_particle _ _ c.loop-i.invariant.at lt at_is
          (c.plus-at.ensures.size _ _ c.loop-i.invariant.at.size c.particle-particle.ensures.at);
      before = sum_next (λ p. p.before) ps c.loop-i.i no_particle _ _ c.loop-i.invariant.before lt before_is
          (c.plus-before.ensures.size _ _ c.loop-i.invariant.before.size c.particle-particle.ensures.before);
      cost = omega (arith, c.loop-i.invariant.cost, c.particle-particle.ensures.cost);
    }

pub returns-clause-at : goal.returns-clause-at
returns-clause-at g c =
    sum_ends (λ p. p.at) c.args.solver.now.world.particles c.loop-i.i _ c.loop-i.invariant.at
    (omega (arith, c.loop-i-test.false, c.particles-i-end.ensures.value))

pub returns-clause-before : goal.returns-clause-before
returns-clause-before g c =
    sum_ends (λ p. p.before) c.args.solver.now.world.particles c.loop-i.i _ c.loop-i.invariant.before
    (omega (arith, c.loop-i-test.false, c.particles-i-end.ensures.value))
