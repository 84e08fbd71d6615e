use Rattle.std.proofs.Common.{◌≤◌, ◌-◌, ◌*◌}
use Rattle.pbd_num.proofs.stepped_up.Given as goal

abbrev pub invariant-loop-r : goal.invariant-loop-r
invariant-loop-r l = l.r * l.r ≤ l.n

abbrev pub decreases-loop-r : goal.decreases-loop-r
decreases-loop-r l = l.n - l.r
