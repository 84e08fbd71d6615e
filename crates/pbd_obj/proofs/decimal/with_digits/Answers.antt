use Rattle.std.proofs.Common.{◌∙◌, sym, ◌++◌, ◌+◌, ◌≤◌, length, arith}
use Rattle.std.specs.Prelude.{IsTrue}
use Rattle.std.proofs.lemmas.Int.{ints}
use Rattle.pbd_obj.specs.Decimals.{are_few_digits}
use Rattle.pbd_obj.proofs.Numbers.{digits_are, few_length}
use Rattle.pbd_obj.proofs.decimal.with_digits.Goals.{After-joined_value}
use Rattle.pbd_obj.proofs.decimal.with_digits.Goals as goal

-- the digits passed the test, and so are at most 24
few_digits : (c : After-joined_value) → IsTrue (are_few_digits (c.args.whole.now ++ c.args.fraction.now))
    × (length c.args.whole.now + length c.args.fraction.now ≤ 24)
few_digits c = let tested = sym c.are_few_digits.ensures ∙ c.if-not-are_few_digits.false in
    (tested, few_length c.args.whole.now c.args.fraction.now tested)

pub returns-clause-value : goal.returns-clause-value
returns-clause-value c =
    let few = few_digits (goal.at.returns-clause-value c).After-joined_value in
    digits_are c.args.minus c.args.whole.now c.args.fraction.now c.joined_value.result c.args.exponent _ few.0 c.joined_value.ensures.value
    (omega (arith, ints, few.1, c.requires.exponent))

pub returns-clause-bounds : goal.returns-clause-bounds
returns-clause-bounds c = record {
  digits = c.joined_value.ensures.size;
  power = omega (arith, ints, (few_digits (goal.at.returns-clause-bounds c).After-joined_value).1, c.requires.exponent);
}
