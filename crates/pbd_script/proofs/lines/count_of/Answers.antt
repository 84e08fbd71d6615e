use Rattle.std.proofs.Common.{arith, length}
use Rattle.pbd_script.proofs.NumberLemmas.{of_digits}
use Rattle.pbd_script.proofs.lines.count_of.Goals as goal

pub returns-clause-bound : goal.returns-clause-bound
returns-clause-bound c = of_digits c.value_of.result (length c.args.word.now) c.value_of.ensures.size
    (omega (arith, c.if-word-gt-MOST_DIGITS.false))
