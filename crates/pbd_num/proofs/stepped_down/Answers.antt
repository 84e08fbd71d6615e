use Rattle.std.proofs.Common.{arith}
use Rattle.pbd_num.proofs.RoundingLemmas.{square_fits, root_above_zero}
use Rattle.pbd_num.proofs.stepped_down.Goals as goal

pub loop-r-init : goal.loop-r-init
loop-r-init c = c.requires

pub overflow_mul-r : goal.overflow_mul-r
overflow_mul-r c = record { fits = square_fits c.loop-r.r c.loop-r.invariant }

pub loop-r-smaller : goal.loop-r-smaller
loop-r-smaller c = let above = root_above_zero c.loop-r.r c.args.n c.loop-r-test.true in omega arith

pub loop-r-preserved : goal.loop-r-preserved
loop-r-preserved c = let below = c.loop-r.invariant in omega arith
