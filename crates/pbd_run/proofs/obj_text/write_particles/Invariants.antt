use Rattle.std.proofs.Common.{◌≤◌, take}
use Rattle.std.specs.List.{flat_map}
use Rattle.std.specs.Io.KnownBytes.{Appends}
use Rattle.pbd_outcome.specs.ObjText.{particle_line}
use Rattle.pbd_run.proofs.obj_text.write_particles.Given as goal

-- the particles so far are written
abbrev pub invariant-loop-i : goal.invariant-loop-i
invariant-loop-i g l = record {
  bytes : Appends (g.K.Sink.written l.fn.sink) (g.K.Sink.written l.sink) (flat_map particle_line (take l.i l.solver.world.particles));
  later : g.K.Sink.faults l.fn.sink ≤ g.K.Sink.faults l.sink;
}
