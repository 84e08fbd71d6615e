use Rattle.std.proofs.Common.{◌≤◌, length}
use Rattle.pbd_script.specs.Lines.{left_of, pieces}
use Rattle.pbd_run.proofs.HostingLaws.{Serves}
use Rattle.pbd_run.proofs.host.serve_all.Given as goal

-- the lines so far are served
abbrev pub invariant-loop-rest : goal.invariant-loop-rest
invariant-loop-rest g l = record {
  serves : Serves l.fn.host (pieces l.lines) l.host (left_of pieces l.rest) (g.K.Sink.written l.fn.sink) (g.K.Sink.written l.sink)
      l.refused;
  later : g.K.Sink.faults l.fn.sink ≤ g.K.Sink.faults l.sink;
}

abbrev pub decreases-loop-rest : goal.decreases-loop-rest
decreases-loop-rest g l = length (left_of pieces l.rest)
