use Rattle.std.proofs.Common.{arith}
use Rattle.pbd_script.proofs.NumberLemmas.{next_bound, next_value, of_most_digits}
use Rattle.pbd_script.proofs.lines.value_of.Goals as goal

pub overflow_mul-n : goal.overflow_mul-n
overflow_mul-n c = let n = of_most_digits c.loop-digit.n c.loop-digit.digit-index c.loop-digit.invariant.bound
    (omega (arith, c.loop-digit-test.true, c.requires.short)) in omega (arith, n)

pub overflow_add-n : goal.overflow_add-n
overflow_add-n c = let n = of_most_digits c.loop-digit.n c.loop-digit.digit-index c.loop-digit.invariant.bound
    (omega (arith, c.loop-digit-test.true, c.requires.short)) in omega (arith, n, c.from.type_inv)

pub loop-digit-preserved : goal.loop-digit-preserved
loop-digit-preserved c =
    record {
      value = next_value c.args.digits.now c.loop-digit.digit-index c.loop-digit.n c.from.result c.loop-digit-test.true
          c.loop-digit.invariant.value c.from.ensures;
      bound = next_bound c.args.digits.now c.loop-digit.digit-index c.loop-digit.n c.from.result c.loop-digit-test.true c.requires.digits
          c.loop-digit.invariant.bound c.from.ensures;
    }
