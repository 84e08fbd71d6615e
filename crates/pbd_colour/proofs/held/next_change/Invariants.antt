use Rattle.std.proofs.Common.{◌-◌, length}
use Rattle.pbd_colour.specs.Held.{AgreeTo}
use Rattle.pbd_colour.proofs.held.next_change.Given as goal

abbrev pub invariant-loop-at : goal.invariant-loop-at
invariant-loop-at l = AgreeTo l.flags l.others l.start l.at

abbrev pub decreases-loop-at : goal.decreases-loop-at
decreases-loop-at l = length l.flags - l.at
