use Rattle.std.proofs.Common.{arith, w32, FitsSigned, rules}
use Rattle.std.proofs.lemmas.Int.{ints}
use Rattle.pbd_pair.proofs.WideRows.{no_flag}
use Rattle.pbd_pair.proofs.mend.told_row.Goals as goal

pub checked-requires-clause-flag : goal.checked-requires-clause-flag
checked-requires-clause-flag c =
    let fits : FitsSigned w32 c.row_of-row.result.flag = search rules in
    no_flag c.row_of-row.result.flag fits c.if-short.true

pub checked-requires-clause-size : goal.checked-requires-clause-size
checked-requires-clause-size c =
    let fits : FitsSigned w32 c.row_of-row.result.flag = search rules in
    c.row_of-row.ensures.size (no_flag c.row_of-row.result.flag fits c.if-short.true)

pub returns-else-short : goal.returns-else-short
returns-else-short c = record {
  size = λ f. absurd (omega (arith, ints, f));
  first = λ f. absurd (omega (arith, ints, f));
  second = λ f. absurd (omega (arith, ints, f));
}
