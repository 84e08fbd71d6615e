use Rattle.std.proofs.Common.{◌<◌, length, arith}
use Rattle.std.proofs.lemmas.Result.{err_from_is_err_and}
use Rattle.pbd_world.specs.Particles.{no_particle}
use Rattle.pbd_session.specs.Printing.{place_after}
use Rattle.pbd_io.specs.Appending.{appends_nothing, failed_next}
use Rattle.pbd_session.proofs.Texts.{place_is, written_all, written_next}
use Rattle.pbd_session.proofs.printing.write_places.Goals.{After-particle}
use Rattle.pbd_session.proofs.printing.write_places.Goals as goal

-- there is a particle of this number
within : (g : _) (c : After-particle g) → c.loop-i.i < length c.args.solver.now.world.particles
within g c = omega (arith, c.loop-i-test.true, c.particles-i-end.ensures.value)

pub loop-i-init : goal.loop-i-init
loop-i-init g c = record {
  bytes = appends_nothing (g.K.Sink.written c.args.sink.now);
  cost = omega arith;
  later = omega arith;
}

pub loop-i-preserved : goal.loop-i-preserved
loop-i-preserved g c = record {
  bytes = written_next (place_after c.args.prefix.now) c.args.solver.now.world.particles c.loop-i.i no_particle _ _ _ _
      c.loop-i.invariant.bytes (within g (goal.at.loop-i-preserved g c).After-particle)
      (place_is c.args.prefix.now _ _ _ c.place_line-place.ensures c.particle.ensures.value) c.in_ok-write_line.ensures.bytes;
  cost = omega (arith, c.loop-i.invariant.cost, c.particle.ensures.cost);
  later = omega (arith, c.loop-i.invariant.later, c.write_line.ensures.cause);
}

pub returns-in_err-write_line-clause-bytes : goal.returns-in_err-write_line-clause-bytes
returns-in_err-write_line-clause-bytes g c =
    let p = err_from_is_err_and c.from_residual.result c.from_residual.ensures.1 in
    rw p.1 (failed_next (place_after c.args.prefix.now) c.args.solver.now.world.particles c.loop-i.i no_particle _ _ _ _
    c.loop-i.invariant.bytes (within g (goal.at.returns-in_err-write_line-clause-bytes g c).After-particle)
    (place_is c.args.prefix.now _ _ _ c.place_line-place.ensures c.particle.ensures.value) c.in_err-write_line.ensures.bytes)

pub returns-clause-bytes : goal.returns-clause-bytes
returns-clause-bytes g c =
    written_all (place_after c.args.prefix.now) c.args.solver.now.world.particles c.loop-i.i _ _ c.loop-i.invariant.bytes
    (omega (arith, c.loop-i-test.false, c.particles-i-end.ensures.value))
