use Rattle.std.proofs.Common.{arith, ◌+◌, ◌-◌, ◌<◌, ◌^◌}
use Rattle.pbd_num.proofs.RoundingLemmas.{square_fits, short_root, nearer, root_is}
use Rattle.pbd_num.proofs.stepped_up.Goals as goal
use Rattle.pbd_num.proofs.stepped_up.Goals.{At-loop-r}

short : (c : At-loop-r) → c.loop-r.r < 2 ^ 32 - 1
short c = short_root c.loop-r.r c.args.n c.loop-r.invariant c.requires.size

pub loop-r-init : goal.loop-r-init
loop-r-init c = c.requires.square

pub overflow_add-r : goal.overflow_add-r
overflow_add-r c = record { fits = omega (arith, short c) }

pub overflow_add-r-in-loop-r : goal.overflow_add-r-in-loop-r
overflow_add-r-in-loop-r c = record { fits = omega (arith, short c) }

pub overflow_mul-r : goal.overflow_mul-r
overflow_mul-r c = record { fits = square_fits (c.loop-r.r + 1) (omega (arith, short c)) }

pub loop-r-smaller : goal.loop-r-smaller
loop-r-smaller c = let step = c.loop-r-test.true in nearer c.loop-r.r c.args.n (omega arith)

pub loop-r-preserved : goal.loop-r-preserved
loop-r-preserved c = let step = c.loop-r-test.true in omega arith

pub returns-clause-value : goal.returns-clause-value
returns-clause-value c = root_is c.args.n c.loop-r.r c.loop-r.invariant c.loop-r-test.false

pub returns-clause-size : goal.returns-clause-size
returns-clause-size c = omega (arith, short (goal.at.returns-clause-size c).At-loop-r)
