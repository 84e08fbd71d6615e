use Rattle.std.proofs.Common.{arith, length}
use Rattle.pbd_obj.proofs.Numbers.{joined_below, ten_le, ten_pos, value_is}
use Rattle.pbd_obj.proofs.decimal.joined_value.Goals as goal

pub pow-requires : goal.pow-requires
pow-requires c = omega (arith, ten_le (length c.args.fraction.now) 24 (omega (arith, c.requires.few)))

pub overflow_mul-result : goal.overflow_mul-result
overflow_mul-result c =
    let below = joined_below (length c.args.whole.now) (length c.args.fraction.now) c.value_of.result 0 c.pow.result c.requires.few
    c.value_of.ensures.size (ten_pos _) c.pow.ensures in
    omega (arith, below)

pub overflow_add-result : goal.overflow_add-result
overflow_add-result c =
    let below = joined_below (length c.args.whole.now) (length c.args.fraction.now) c.value_of.result c.value_of-2.result c.pow.result
    c.requires.few c.value_of.ensures.size c.value_of-2.ensures.size c.pow.ensures in
    omega (arith, below)

pub returns-clause-value : goal.returns-clause-value
returns-clause-value c = value_is c.args.whole.now c.args.fraction.now c.value_of.result c.value_of-2.result c.pow.result
    c.value_of.ensures.value c.value_of-2.ensures.value c.pow.ensures

pub returns-clause-size : goal.returns-clause-size
returns-clause-size c =
    let below = joined_below (length c.args.whole.now) (length c.args.fraction.now) c.value_of.result c.value_of-2.result c.pow.result
    c.requires.few c.value_of.ensures.size c.value_of-2.ensures.size c.pow.ensures in
    omega (arith, below)
