use Rattle.std.proofs.Common.{ap, arith}
use Rattle.pbd_world.specs.declared.parts.Particle.{Particle}
use Rattle.pbd_self.proofs.Copying.{has_more, has_all}
use Rattle.pbd_self.proofs.places.copy_particles.Goals as goal
use Rattle.pbd_world.proofs.WholeLemmas.{limit_high}

pub loop-i-preserved : goal.loop-i-preserved
loop-i-preserved g c = record {
  places = has_more (λ (p : Particle). p.at) c.args.store.now.particles c.args.places.now c.loop-i.places c.loop-i.i c.push.new.self
      c.at-particle.result.at (omega (arith, c.len-i-end.ensures.value)) c.requires.places
      c.loop-i.invariant.places (ap (λ (p : Particle). p.at) c.at-particle.ensures.value) c.push.ensures.fits;
  held = has_more (λ (p : Particle). p.held) c.args.store.now.particles c.args.held.now c.loop-i.held c.loop-i.i c.push-in-loop-i.new.self
      c.at-particle.result.held (omega (arith, c.len-i-end.ensures.value)) c.requires.held
      c.loop-i.invariant.held (ap (λ (p : Particle). p.held) c.at-particle.ensures.value) c.push-in-loop-i.ensures.fits;
  limit = λ some. limit_high c.args.store.now.limit c.at-particle.ensures.limit;
  cost = omega (arith, c.at-particle.ensures.cost, c.loop-i.invariant.cost);
}

pub returns-clause-places : goal.returns-clause-places
returns-clause-places g c = has_all (λ (p : Particle). p.at) c.args.store.now.particles c.args.places.now c.loop-i.places c.loop-i.i
    (omega (arith, c.len-i-end.ensures.value)) c.loop-i.invariant.places

pub returns-clause-held : goal.returns-clause-held
returns-clause-held g c = has_all (λ (p : Particle). p.held) c.args.store.now.particles c.args.held.now c.loop-i.held c.loop-i.i
    (omega (arith, c.len-i-end.ensures.value)) c.loop-i.invariant.held

pub returns-clause-limit : goal.returns-clause-limit
returns-clause-limit g c some = c.loop-i.invariant.limit (omega (arith, some, c.len-i-end.ensures.value))
