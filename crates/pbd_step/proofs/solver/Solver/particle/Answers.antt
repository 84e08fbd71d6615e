use Rattle.std.proofs.Common.{sym, subst, arith, ◌^◌, ◌<◌, length}
use Rattle.pbd_num.specs.Vectors.{Within}
use Rattle.pbd_world.specs.declared.parts.Particle.{Particle}
use Rattle.pbd_step.specs.States.{world_of}
use Rattle.pbd_step.specs.Solving.{Solved}
use Rattle.pbd_step.proofs.Mild.{sound_mild}
use Rattle.pbd_step.proofs.solver.Solver.particle.Goals as goal

pub at-requires : goal.at-requires
at-requires g c = (
  omega (arith, c.requires.lanes_high),
  subst (λ (s : Solved g.row.P.Denot). c.args.i < length s.world.particles) (sym c.self.view_is) c.requires.within,
)

pub returns-clause-at : goal.returns-clause-at
returns-clause-at g c =
    let there = subst (λ (s : Solved g.row.P.Denot). c.args.i < length s.world.particles) (sym c.self.view_is) c.requires.within in
    subst (λ (p : Particle). Within (2 ^ 29) p.at) (sym c.at.ensures.value)
    ((sound_mild (world_of c.self.inside.setting c.self.inside.run.state) c.self.invariant.sound).at c.args.i there)

pub returns-clause-before : goal.returns-clause-before
returns-clause-before g c =
    let there = subst (λ (s : Solved g.row.P.Denot). c.args.i < length s.world.particles) (sym c.self.view_is) c.requires.within in
    subst (λ (p : Particle). Within (2 ^ 29) p.before) (sym c.at.ensures.value)
    ((sound_mild (world_of c.self.inside.setting c.self.inside.run.state) c.self.invariant.sound).before c.args.i there)
