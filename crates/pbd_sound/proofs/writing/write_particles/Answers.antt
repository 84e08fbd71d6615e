use Rattle.std.proofs.Common.{◌∙◌, sym, arith}
use Rattle.pbd_world.specs.Particles.{no_particle, effective_weight}
use Rattle.pbd_sound.specs.Described.{particle_told}
use Rattle.pbd_sound.proofs.Telling.{numbered_is, mapped_is}
use Rattle.pbd_sound.proofs.writing.write_particles.Goals as goal

pub returns-clause-particles : goal.returns-clause-particles
returns-clause-particles g c =
    numbered_is (particle_told (g.D.Described.seen c.args.described.now)) c.args.other.now.particles c.loop-i.store.particles no_particle
    c.loop-i.invariant.whole
    (λ i lt. c.loop-i.invariant.done i (omega (arith, lt, c.len-i-end.ensures.value, c.loop-i-test.false)))

pub returns-clause-weights : goal.returns-clause-weights
returns-clause-weights g c =
    let inv = c.loop-i.invariant in
    mapped_is effective_weight c.loop-i.store.particles c.loop-i.weights no_particle (inv.listed ∙ sym inv.whole)
    (λ i lt. inv.weights i (omega (arith, lt, inv.whole, c.len-i-end.ensures.value, c.loop-i-test.false)))
