use Rattle.std.proofs.Common.{◌∙◌, sym}
use Rattle.pbd_num.specs.Vectors.{zero_vector}
use Rattle.pbd_store.specs.InRows.{no_high, place_by, place_in_row, row_of}
use Rattle.pbd_store.proofs.InRows.{by_long, place_alone, seen_by, zeros_flat, zeros_high, zeros_long}
use Rattle.pbd_store.proofs.rows.PlaceRows.zeros.Goals as goal

pub returns-clause-long : goal.returns-clause-long
returns-clause-long c = by_long c.in_ok-low.low.items c.in_ok-high.high.items
    ∙ zeros_long c.args.m c.args.n (row_of zero_vector) c.in_ok-low.ensures

pub returns-clause-each : goal.returns-clause-each
returns-clause-each c = λ i.
    let m = c.args.m in
    let n = c.args.n in
    seen_by c.in_ok-low.low.items c.in_ok-high.high.items
    (zeros_long m n no_high c.in_ok-high.ensures ∙ sym (zeros_long m n (row_of zero_vector) c.in_ok-low.ensures)) i
    ∙ (λ t. place_by (place_in_row (zeros_flat m n c.in_ok-low.ensures i t)) (zeros_high m n c.in_ok-high.ensures i t))
    ∙ place_alone zero_vector
