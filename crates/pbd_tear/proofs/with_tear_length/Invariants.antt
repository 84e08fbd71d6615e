use Rattle.pbd_tear.proofs.Numbers.{Listed, has_tear_length}
use Rattle.pbd_tear.proofs.with_tear_length.Given as goal

-- the numbers below i of links with a tear length are in the list
abbrev pub invariant-loop-i : goal.invariant-loop-i
invariant-loop-i l = Listed has_tear_length l.links l.i l.fn.out.room l.out
