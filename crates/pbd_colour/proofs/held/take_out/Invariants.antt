use Rattle.std.proofs.Common.{length}
use Rattle.pbd_colour.proofs.Holding.{IsTaking}
use Rattle.pbd_colour.proofs.held.take_out.Given as goal

abbrev pub invariant-loop-i : goal.invariant-loop-i
invariant-loop-i l = IsTaking l.numbers (length l.fn.chains.chains) l.fn.chains.items l.pairs l.fn.live l.live l.chains l.i-index
