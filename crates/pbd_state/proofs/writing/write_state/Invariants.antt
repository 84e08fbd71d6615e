use Rattle.std.proofs.Common.{◌≡◌, ◌+◌, ◌≤◌, ◌++◌, length, drop}
use Rattle.pbd_state.specs.Fields.{fields_bytes}
use Rattle.pbd_state.proofs.writing.write_state.Given as goal

-- the fields so far are written, and what is behind them is as it was
abbrev pub invariant-loop-k : goal.invariant-loop-k
invariant-loop-k g l = record {
  at : l.at ≡ length (fields_bytes l.scene l.shown l.k);
  written : l.into ≡ fields_bytes l.scene l.shown l.k ++ drop l.at l.initial.into;
  cost : l.steps ≤ l.initial.steps + l.k;
}
