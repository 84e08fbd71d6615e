use Rattle.std.proofs.Common.{length}
use Rattle.pbd_run.proofs.SplitLaws.{Walked}
use Rattle.pbd_run.proofs.split.split_at.Given as goal

-- no piece so far was the divider
abbrev pub invariant-loop-next : goal.invariant-loop-next
invariant-loop-next l = Walked l.word l.input l.rest l.at

abbrev pub decreases-loop-next : goal.decreases-loop-next
decreases-loop-next l = length l.rest
