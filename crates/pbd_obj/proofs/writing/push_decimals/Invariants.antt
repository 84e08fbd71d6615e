use Rattle.pbd_obj.proofs.WriteLemmas.{DecimalsSoFar}
use Rattle.pbd_obj.proofs.writing.push_decimals.Given as goal

abbrev pub invariant-loop : goal.invariant-loop
invariant-loop l = DecimalsSoFar l.n l.fn.line l.line l.rest l.counter
