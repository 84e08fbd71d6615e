use Rattle.std.proofs.Common.{◌≤◌, ◌-◌, length}
use Rattle.pbd_colour.proofs.Holding.{IsFollowing}
use Rattle.pbd_colour.proofs.held.hold_as.Given as goal

abbrev pub invariant-loop-at : goal.invariant-loop-at
invariant-loop-at l = IsFollowing (length l.fn.chains.chains) l.fn.chains.items l.pairs l.live l.flags l.chains l.at × l.at ≤ length l.flags

abbrev pub decreases-loop-at : goal.decreases-loop-at
decreases-loop-at l = length l.flags - l.at
