use Rattle.std.proofs.Common.{◌+◌, ◌≤◌, take}
use Rattle.std.specs.List.{flat_map}
use Rattle.std.specs.Io.KnownBytes.{Appends}
use Rattle.pbd_obj.specs.Writing.{corner_text}
use Rattle.pbd_obj.proofs.writing.write_corners.Given as goal

-- the corners so far are written
abbrev pub invariant-loop-corner : goal.invariant-loop-corner
invariant-loop-corner g l = record {
  bytes : Appends (g.K.Sink.written l.fn.sink) (g.K.Sink.written l.sink)
      (flat_map (λ corner. corner_text (l.base + corner + 1)) (take l.corner-index l.corners));
  later : g.K.Sink.faults l.fn.sink ≤ g.K.Sink.faults l.sink;
}
