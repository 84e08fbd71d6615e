use Rattle.std.proofs.Common.{◌+◌, ◌≤◌}
use Rattle.sha2.specs.Hashers.{Holds256}
use Rattle.pbd_state.specs.Fields.{fields_bytes}
use Rattle.pbd_state.proofs.hashing.digest.Given as goal

-- the fields so far were fed
abbrev pub invariant-loop-k : goal.invariant-loop-k
invariant-loop-k g l = record {
  fed : Holds256 l.hasher (fields_bytes l.scene l.shown l.k);
  cost : l.steps ≤ l.initial.steps + l.k;
}
