use Rattle.std.proofs.Common.{◌+◌, ◌≤◌, ◌++◌, length, take}
use Rattle.std.specs.List.{flat_map}
use Rattle.pbd_log.specs.Entries.{number_bytes}
use Rattle.pbd_encoding.specs.Scene.{weight_bytes}
use Rattle.pbd_encoding.specs.Feeding.{Fed}
use Rattle.pbd_state.proofs.naming.feed_weights.Given as goal

-- how many particles there are, and the weights so far, were fed
abbrev pub invariant-loop-i : goal.invariant-loop-i
invariant-loop-i g l = record {
  fed : Fed l.fn.hasher l.hasher (number_bytes 4 (length l.shown.particles) ++ flat_map weight_bytes (take l.i l.shown.particles));
  cost : l.steps ≤ l.fn.steps + l.i;
}
