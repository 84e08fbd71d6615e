use Rattle.std.proofs.Common.{arith, ◌∙◌, ◌+◌, ℕ, nat_lt}
use Rattle.pbd_lanes.specs.Lane.{lanes_of}
use Rattle.pbd_store.proofs.Filling.{filled_all, all_filled}
use Rattle.pbd_store.proofs.columns.Columns.filled.Goals as goal

pub returns-then-start-count : goal.returns-then-start-count
returns-then-start-count g c = c.from_array.ensures
    ∙ all_filled g.row.L c.start-start.result c.len-count.result (omega (arith, c.if-start-count.true))
    ∙ (λ t. lanes_of g.row.L (λ (j : ℕ). nat_lt (c.start-start.ensures.value t + j) (c.len-count.ensures.value t)))

pub returns : goal.returns
returns g c = c.from_array-2.ensures ∙ filled_all c.loop-j.j (omega arith) c.loop-j.invariant
    ∙ (λ t. lanes_of g.row.L (λ (j : ℕ). nat_lt (c.start-start.ensures.value t + j) (c.len-count.ensures.value t)))
