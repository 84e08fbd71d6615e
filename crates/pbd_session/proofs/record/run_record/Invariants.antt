use Rattle.std.proofs.Common.{◌≤◌, length}
use Rattle.pbd_session.proofs.Recorded.{Logged}
use Rattle.pbd_session.proofs.record.run_record.Given as goal

-- the session has come so far, and its log too
abbrev pub invariant-loop-command : goal.invariant-loop-command
invariant-loop-command g l = record {
  logged : Logged l.fn.session l.initial.script l.fn.session.limit l.scene l.session l.script (g.K.Sink.written l.fn.sink)
      (g.K.Sink.written l.sink) l.refused l.writer;
  later : g.K.Sink.faults l.fn.sink ≤ g.K.Sink.faults l.sink;
}

abbrev pub decreases-loop-command : goal.decreases-loop-command
decreases-loop-command g l = length l.script
