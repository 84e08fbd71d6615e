use Rattle.std.proofs.Common.{◌≡◌, ◌+◌, ◌≤◌, take}
use Rattle.std.specs.List.{flat_map}
use Rattle.std.specs.Io.KnownBytes.{Appends}
use Rattle.pbd_session.specs.Printing.{place_after}
use Rattle.pbd_session.proofs.printing.write_places.Given as goal

-- the places so far are written
abbrev pub invariant-loop-i : goal.invariant-loop-i
invariant-loop-i g l = record {
  bytes : Appends (g.K.Sink.written l.fn.sink) (g.K.Sink.written l.sink)
      (flat_map (place_after l.prefix) (take l.i l.solver.world.particles));
  cost : l.steps ≡ l.fn.steps + l.i;
  later : g.K.Sink.faults l.fn.sink ≤ g.K.Sink.faults l.sink;
}
