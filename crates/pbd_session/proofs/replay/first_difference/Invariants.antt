use Rattle.std.proofs.Common.{◌≡◌, drop}
use Rattle.pbd_session.specs.Replaying.{first_difference}
use Rattle.pbd_session.proofs.replay.first_difference.Given as goal

-- none of the fields so far differs
abbrev pub invariant-loop-item : goal.invariant-loop-item
invariant-loop-item l = first_difference (drop l.item-index l.compared) ≡ first_difference l.compared
