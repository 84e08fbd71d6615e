use Rattle.std.proofs.Common.{length}
use Rattle.pbd_colour.proofs.Holding.{AreGone}
use Rattle.pbd_colour.proofs.held.take_all_out.Given as goal

abbrev pub invariant-loop-i : goal.invariant-loop-i
invariant-loop-i l = AreGone (length l.fn.chains.chains) l.fn.chains.items l.pairs l.live l.chains l.i
