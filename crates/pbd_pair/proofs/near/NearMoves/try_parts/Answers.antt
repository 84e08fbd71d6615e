use Rattle.std.proofs.Common.{◌≡◌, ◌<◌, Bool, List, length, get_or, ap, ◌∙◌, sym, arith, rules, subst}
use Rattle.std.proofs.lemmas.List.{get_or-take}
use Rattle.pbd_num.specs.declared.row.Row.{Row}
use Rattle.pbd_num.specs.Rows.{vector_of, no_row}
use Rattle.pbd_near.specs.Moves.{IsPulled}
use Rattle.pbd_store.specs.Pairs.{row_in}
use Rattle.pbd_pair.specs.Laid.{number_in}
use Rattle.pbd_pair.proofs.near.NearMoves.try_parts.Goals as goal

pub returns-clause-long : goal.returns-clause-long
returns-clause-long c = search rules

pub returns-clause-flags : goal.returns-clause-flags
returns-clause-flags c = λ right j p. c.run.ensures.all right j (omega (arith, c.first_of.ensures.long, p))

pub returns-clause-pulled : goal.returns-clause-pulled
returns-clause-pulled c = λ right j p.
    let found = c.args.found.now in
    let ways = found.ways.now in
    let told : j < length c.first_of.result.now = omega (arith, c.first_of.ensures.long, p) in
    let same : get_or c.first_of.result.now j no_row ≡ row_in ways j =
    ap (λ (rows : List Row). get_or rows j no_row) c.first_of.ensures.value ∙ get_or-take (length found.chunk.numbers.now) ways j no_row p in
    subst (λ (contact : Bool). IsPulled (vector_of (row_in ways j)) (number_in found.laid.rest.now j) (number_in c.args.factors.now j) contact
    (vector_of (row_in c.run.new.moves j))) (sym (c.are_contacts.ensures (get_or found.chunk.numbers.now j 0)))
    (subst (λ (r : Row). IsPulled (vector_of r) (number_in found.laid.rest.now j) (number_in c.args.factors.now j) c.are_contacts.result
    (vector_of (row_in c.run.new.moves j))) same (c.run.ensures.each j told (c.run.ensures.all right j told)))

pub run-requires-clause-rest_low : goal.run-requires-clause-rest_low
run-requires-clause-rest_low c = λ j p. (c.requires.columns.rest j (omega (arith, c.first_of.ensures.long, p))).low

pub run-requires-clause-rest_high : goal.run-requires-clause-rest_high
run-requires-clause-rest_high c = λ j p. (c.requires.columns.rest j (omega (arith, c.first_of.ensures.long, p))).high

pub run-requires-clause-factor_low : goal.run-requires-clause-factor_low
run-requires-clause-factor_low c = λ j p. c.requires.low j (omega (arith, c.first_of.ensures.long, p))

pub run-requires-clause-factor_high : goal.run-requires-clause-factor_high
run-requires-clause-factor_high c = λ j p. c.requires.high j (omega (arith, c.first_of.ensures.long, p))
