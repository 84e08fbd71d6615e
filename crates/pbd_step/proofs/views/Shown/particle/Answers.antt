use Rattle.std.proofs.Common.{sym, subst, ◌^◌, ◌<◌, length}
use Rattle.pbd_num.specs.Vectors.{Within}
use Rattle.pbd_world.specs.declared.parts.Particle.{Particle}
use Rattle.pbd_world.specs.World.{World}
use Rattle.pbd_step.specs.States.{world_of}
use Rattle.pbd_step.proofs.Mild.{sound_mild}
use Rattle.pbd_step.proofs.views.Shown.particle.Goals as goal

pub returns-clause-at : goal.returns-clause-at
returns-clause-at g c =
    let there = subst (λ (w : World). c.args.i < length w.particles) (sym c.self.view_is) c.requires.within in
    subst (λ (p : Particle). Within (2 ^ 29) p.at) (sym c.at.ensures.value)
    ((sound_mild (world_of c.self.inside.setting.now c.self.inside.state.now) c.self.invariant).at c.args.i there)

pub returns-clause-before : goal.returns-clause-before
returns-clause-before g c =
    let there = subst (λ (w : World). c.args.i < length w.particles) (sym c.self.view_is) c.requires.within in
    subst (λ (p : Particle). Within (2 ^ 29) p.before) (sym c.at.ensures.value)
    ((sound_mild (world_of c.self.inside.setting.now c.self.inside.state.now) c.self.invariant).before c.args.i there)
