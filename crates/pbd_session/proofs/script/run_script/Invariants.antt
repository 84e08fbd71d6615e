use Rattle.std.proofs.Common.{ℕ, ◌+◌, ◌<◌, ◌≤◌, length}
use Rattle.pbd_world.specs.Work.{session_work}
use Rattle.pbd_session.proofs.Running.{Ran}
use Rattle.pbd_session.proofs.script.run_script.Given as goal

-- the session has come so far
abbrev pub invariant-loop-command : goal.invariant-loop-command
invariant-loop-command g l = record {
  ran : Ran l.fn.session l.initial.script l.session l.script (g.K.Sink.written l.fn.sink) (g.K.Sink.written l.sink) l.refused;
  spent : (lanes : ℕ) → 0 < lanes → ((projector : g.row.P.Denot) → lanes ≤ g.P.Projector.width projector)
      → l.steps + session_work g.row.L lanes l.session l.script ≤ l.fn.steps + session_work g.row.L lanes l.fn.session l.initial.script;
  later : g.K.Sink.faults l.fn.sink ≤ g.K.Sink.faults l.sink;
}

abbrev pub decreases-loop-command : goal.decreases-loop-command
decreases-loop-command g l = length l.script
