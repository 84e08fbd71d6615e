use Rattle.std.proofs.Common.{◌<◌, ◌≤◌, ◌^◌, length}
use Rattle.pbd_session.proofs.Replays.{Agreed}
use Rattle.pbd_session.proofs.replay.run_replay.Given as goal

-- the entries so far agree, and since the first one was read, it is known that they can be counted
abbrev pub invariant-loop-entry : goal.invariant-loop-entry
invariant-loop-entry g l = record {
  agreed : Agreed l.fn.session l.initial.view.entries l.number l.session l.view.entries (g.K.Sink.written l.fn.sink)
      (g.K.Sink.written l.sink) l.refused;
  countable : 1 < l.number → length l.initial.view.entries < 2 ^ 63;
  later : g.K.Sink.faults l.fn.sink ≤ g.K.Sink.faults l.sink;
}

abbrev pub decreases-loop-entry : goal.decreases-loop-entry
decreases-loop-entry g l = length l.view.entries
