use Rattle.std.proofs.Common.{◌<◌, length, arith, rules, refl}
use Rattle.std.proofs.lemmas.Bool.{and_parts}
use Rattle.pbd_near.proofs.Rows.{no_flag}
use Rattle.pbd_pair.proofs.Chunks.{weights_sized, weights_told}
use Rattle.pbd_pair.proofs.Filling.{filled_as, filled_none, filled_more}
use Rattle.pbd_pair.proofs.WideRows.{pulled_in_columns, rows_tried, same_row}
use Rattle.pbd_pair.proofs.wide.put_short_rows.Goals as goal

pub loop-j-init : goal.loop-j-init
loop-j-init c = filled_none (search rules)

pub wide_row-row-requires-clause-pull : goal.wide_row-row-requires-clause-pull
wide_row-row-requires-clause-pull c =
    let weights = c.weights_of-weights.ensures in
    (pulled_in_columns c.requires.known c.requires.columns c.loop-j.j (omega arith) weights.first weights.second
    c.are_contacts-contact.ensures c.short_pull-pull.ensures).mild

pub wide_row-row-requires-clause-weights : goal.wide_row-row-requires-clause-weights
wide_row-row-requires-clause-weights c = weights_sized c.requires.columns.sized c.loop-j.j (omega arith) c.weights_of-weights.ensures.first
    c.weights_of-weights.ensures.second

pub loop-j-preserved : goal.loop-j-preserved
loop-j-preserved c =
    let j = c.loop-j.j in
    let found = c.args.found.now in
    let columns = c.requires.columns in
    let p : j < length found.chunk.numbers.now = omega arith in
    let weights = c.weights_of-weights.ensures in
    let pull = pulled_in_columns c.requires.known columns j p weights.first weights.second c.are_contacts-contact.ensures
    c.short_pull-pull.ensures in
    let told = weights_told columns.sized j p weights.first weights.second in
    let row = c.wide_row-row.ensures in
    filled_more c.wide_row-row.result (omega (arith, c.requires.known.few)) (record {
      near = λ f. same_row c.vector.ensures told.0 told.1 refl (row.near _ pull.value f);
      flag = λ t. no_flag c.wide_row-row.result.flag row.flag (and_parts _ _ t).1;
    }) (filled_as c.loop-j.invariant (λ i r h. record { near = h.near; flag = λ t. h.flag (and_parts _ _ t).0 }))

pub returns : goal.returns
returns c = record {
  tried = rows_tried c.requires.known.few (omega arith) c.loop-j.invariant;
  all = λ t j p. (c.loop-j.invariant.below j (omega arith)).flag t;
}
