use Rattle.pbd_cloth.specs.Reading.{has_gone}
use Rattle.pbd_cloth.proofs.Writing.{Written}
use Rattle.pbd_cloth.proofs.reads.write_gone.Given as goal

-- those of the first i are counted and written
abbrev pub invariant-loop-i : goal.invariant-loop-i
invariant-loop-i l = Written (has_gone l.earlier l.later) l.i l.fn.into l.count l.into
