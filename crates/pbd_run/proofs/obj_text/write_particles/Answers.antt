use Rattle.std.proofs.Common.{ap, arith, rules, ◌<◌, ◌≤◌, length}
use Rattle.std.proofs.lemmas.Result.{err_from_is_err_and}
use Rattle.pbd_outcome.specs.ObjText.{particle_line}
use Rattle.pbd_io.specs.Appending.{appends_nothing, failed_next}
use Rattle.pbd_session.proofs.Texts.{written_next, written_all}
use Rattle.pbd_run.proofs.obj_text.write_particles.Goals.{After-particle}
use Rattle.pbd_run.proofs.obj_text.write_particles.Goals as goal

-- there is a particle of this number
within : (g : _) (c : After-particle g) → c.loop-i.i < length c.solver-solver.result.now.world.particles
within g c = omega (arith, c.loop-i-test.true, c.loop-i.auto.i-end, c.particles-i-end.ensures.value)

pub returns-in_err-write_vertex-clause-bytes : goal.returns-in_err-write_vertex-clause-bytes
returns-in_err-write_vertex-clause-bytes g c =
    let p = err_from_is_err_and c.from_residual.result c.from_residual.ensures.1 in
    rw (p.1, ← c.solver-solver.ensures) (failed_next particle_line c.solver-solver.result.now.world.particles c.loop-i.i _ _ _ _ _
    c.loop-i.invariant.bytes (within g (goal.at.returns-in_err-write_vertex-clause-bytes g c).After-particle)
    (ap particle_line c.particle.ensures.value) c.in_err-write_vertex.ensures.bytes)

pub loop-i-init : goal.loop-i-init
loop-i-init g c = record { bytes = appends_nothing (g.K.Sink.written c.args.sink.now); later = search rules }

pub loop-i-preserved : goal.loop-i-preserved
loop-i-preserved g c = record {
  bytes = written_next particle_line c.solver-solver.result.now.world.particles c.loop-i.i _ _ _ _ _ c.loop-i.invariant.bytes
      (within g (goal.at.loop-i-preserved g c).After-particle) (ap particle_line c.particle.ensures.value) c.in_ok-write_vertex.ensures.bytes;
  later = omega (arith, c.loop-i.invariant.later, c.write_vertex.ensures.cause);
}

pub returns-clause-bytes : goal.returns-clause-bytes
returns-clause-bytes g c =
    let le : length c.solver-solver.result.now.world.particles
    ≤ c.loop-i.i = omega (arith, c.loop-i-test.false, c.loop-i.auto.i-end, c.particles-i-end.ensures.value) in
    rw (← c.solver-solver.ensures) (written_all particle_line c.solver-solver.result.now.world.particles c.loop-i.i _ _
    c.loop-i.invariant.bytes le)
