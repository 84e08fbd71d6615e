use Rattle.pbd_tear.proofs.Numbers.{Listed, is_gone}
use Rattle.pbd_tear.proofs.gone.Given as goal

-- the numbers below i of links that are live no longer are in the list
abbrev pub invariant-loop-i : goal.invariant-loop-i
invariant-loop-i l = Listed is_gone l.links l.i l.fn.out.room l.out
