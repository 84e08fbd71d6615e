use Rattle.std.proofs.Common.{arith, w32, FitsSigned}
use Rattle.std.proofs.lemmas.Int.{to_z-of_z}
use Rattle.pbd_num.proofs.Tests.{at_most}
use Rattle.pbd_pair.proofs.Chunks.{below_both}
use Rattle.pbd_pair.proofs.wide.try_wide.Goals as goal

pub least_of-short-requires-clause-low : goal.least_of-short-requires-clause-low
least_of-short-requires-clause-low c = λ j p. (c.requires.columns.factor j (omega (arith, c.requires.columns.factor_long, p))).low

pub least_of-short-requires-clause-high : goal.least_of-short-requires-clause-high
least_of-short-requires-clause-high c = λ j p. (c.requires.columns.factor j (omega (arith, c.requires.columns.factor_long, p))).high

pub put_short_rows-requires-clause-short : goal.put_short_rows-requires-clause-short
put_short_rows-requires-clause-short c =
    let fits : FitsSigned w32 c.least_of-short.result = record { sfits = c.least_of-short.type_inv } in
    let some = at_most _ _ (simp to_z-of_z at c.if-short.true) in
    λ j p. below_both _ _ _ some (c.least_of-short.ensures j (omega (arith, c.requires.columns.factor_long, p)))
