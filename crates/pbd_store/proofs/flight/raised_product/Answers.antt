use Rattle.std.proofs.Common.{◌∙◌, sym, ap, arith, pos, ℤ, unsigned_abs}
use Rattle.std.proofs.lemmas.Int.{ints}
use Rattle.pbd_num.proofs.Sizes.{fits, pos_size}
use Rattle.pbd_store.proofs.Axes.{Lowered, lowered}
use Rattle.pbd_store.proofs.flight.raised_product.Goals as goal
use Rattle.pbd_store.proofs.flight.raised_product.Goals.{After-product_of_raised}

-- what is cast
left : (c : After-product_of_raised) → Lowered c.args.s c.args.f c.product_of_raised.result
left c = lowered c.args.s c.args.f c.product_of_raised.result c.requires.s c.requires.f c.product_of_raised.ensures.size
    c.product_of_raised.ensures.value

pub overflow_sub-result-2 : goal.overflow_sub-result-2
overflow_sub-result-2 c = rw (left c).is (fits _ (omega (arith, (left c).high)))

pub overflow_cast-result : goal.overflow_cast-result
overflow_cast-result c = rw (left c).held_is (omega (arith, ints, (left c).low), omega (arith, (left c).high))

pub returns : goal.returns
returns c = ap (λ (z : ℤ). pos (unsigned_abs z)) (left c).held_is ∙ sym (pos_size _ (left c).low)
