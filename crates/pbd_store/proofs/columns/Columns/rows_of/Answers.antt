use Rattle.std.proofs.Common.{◌≡◌, arith, ap, ◌∙◌, ◌+◌, ℕ}
use Rattle.pbd_lanes.specs.Lane.{lanes_of}
use Rattle.pbd_store.specs.Gathering.{index_at}
use Rattle.pbd_store.proofs.Listing.{lane_is}
use Rattle.pbd_store.proofs.columns.Columns.rows_of.Goals as goal

pub returns-clause-each : goal.returns-clause-each
returns-clause-each g c = c.numbers_from.ensures ∙ ap (λ (s : ℕ). lanes_of g.row.L (λ (j : ℕ). s + j)) c.start.ensures.value

pub returns-clause-within : goal.returns-clause-within
returns-clause-within g c = λ j p.
    let here : index_at c.numbers_from.result j ≡ c.start.result + j =
    lane_is g.row.L (λ (k : ℕ). c.start.result + k) 0 c.numbers_from.ensures j p in
    omega (arith, p, here, c.start.ensures.within)
