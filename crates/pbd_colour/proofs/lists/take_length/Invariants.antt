use Rattle.std.proofs.Common.{◌≡◌, length}
use Rattle.pbd_colour.proofs.lists.take_length.Given as goal

abbrev pub invariant-loop-i : goal.invariant-loop-i
invariant-loop-i g l = (l.list.room ≡ l.fn.list.room) × (length l.list.entries ≡ l.i)
