use Rattle.std.proofs.Common.{arith, unsigned_abs}
use Rattle.pbd_num.proofs.Sizes.{size-mul}
use Rattle.pbd_near.proofs.Multiplying.{product_is}
use Rattle.pbd_near.proofs.products.product.Goals as goal

pub returns-clause-value : goal.returns-clause-value
returns-clause-value c =
    product_is c.args.a c.args.b 32768 65535 c.ranges.a c.ranges.b c.requires.a c.requires.b (omega arith)

pub returns-clause-size : goal.returns-clause-size
returns-clause-size c = rw (returns-clause-value c) (size-mul c.args.a c.args.b 32768 (unsigned_abs c.args.b) c.requires.a (omega arith))
