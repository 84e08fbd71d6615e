use Rattle.std.proofs.Common.{sym, ◌∙◌, arith}
use Rattle.std.proofs.lemmas.Bool.{and_parts}
use Rattle.std.proofs.lemmas.Int.{ints}
use Rattle.pbd_pair.proofs.mend.checked.Goals as goal

pub returns-then-same : goal.returns-then-same
returns-then-same c = record {
  size = λ f. c.requires.size;
  first = λ f. sym (c.are_same.ensures (and_parts _ _ c.if-same.true).0) ∙ c.row_moves-told.ensures.first;
  second = λ f. sym (c.are_same-2.ensures (and_parts _ _ c.if-same.true).1) ∙ c.row_moves-told.ensures.second;
}

pub returns-else-same : goal.returns-else-same
returns-else-same c = record {
  size = λ f. absurd (omega (arith, ints, f));
  first = λ f. absurd (omega (arith, ints, f));
  second = λ f. absurd (omega (arith, ints, f));
}
