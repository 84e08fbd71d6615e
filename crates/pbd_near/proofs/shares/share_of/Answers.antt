use Rattle.std.proofs.Common.{arith}
use Rattle.pbd_num.proofs.Sizes.{size-mul}
use Rattle.pbd_near.proofs.Multiplying.{product_is}
use Rattle.pbd_near.proofs.shares.share_of.Goals as goal

pub returns-clause-value : goal.returns-clause-value
returns-clause-value c =
    product_is c.args.quotient c.args.factor 32769 512 c.ranges.quotient c.ranges.factor c.requires.quotient c.requires.factor (omega arith)

pub returns-clause-size : goal.returns-clause-size
returns-clause-size c = rw (returns-clause-value c)
    (omega (arith, size-mul c.args.quotient c.args.factor 32769 512 c.requires.quotient c.requires.factor))
