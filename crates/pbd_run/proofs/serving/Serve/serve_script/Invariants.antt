use Rattle.std.proofs.Common.{◌≤◌, length}
use Rattle.pbd_run.proofs.Served.{Served}
use Rattle.pbd_run.proofs.serving.Serve.serve_script.Given as goal

-- the state has come so far
abbrev pub invariant-loop-command : goal.invariant-loop-command
invariant-loop-command g l = record {
  served : Served (g.Self.Serve.state_after l.fn.self) (g.Self.Serve.answer_to l.fn.self) (g.Self.Serve.refuses l.fn.self) l.fn.state
      l.initial.script l.state l.script (g.K.Sink.written l.fn.sink) (g.K.Sink.written l.sink) l.refused;
  later : g.K.Sink.faults l.fn.sink ≤ g.K.Sink.faults l.sink;
}

abbrev pub decreases-loop-command : goal.decreases-loop-command
decreases-loop-command g l = length l.script
