use Rattle.std.proofs.Common.{arith, sym, ◌∙◌, false, ℕ}
use Rattle.pbd_lanes.specs.Lane.{lanes_of}
use Rattle.pbd_store.specs.Gathering.{index_at}
use Rattle.pbd_store.proofs.Filling.{filled_all, filled_more}
use Rattle.pbd_store.proofs.Listing.{any_default, count_is, row_is}
use Rattle.pbd_store.proofs.columns.Columns.picked_flags.Goals as goal

pub index-requires : goal.index-requires
index-requires g c = omega (
  arith,
  c.requires c.loop-j.j (omega arith),
  count_is c.self.invariant.padded c.self.view_is,
  c.self.invariant.padded.flags,
)

pub loop-j-preserved : goal.loop-j-preserved
loop-j-preserved g c =
    let near = c.requires c.loop-j.j (omega arith) in
    let read = c.index.ensures ∙ any_default c.self.inside.held.items (index_at c.args.rows c.loop-j.j) c.index.result.now false
    (omega (arith, near, count_is c.self.invariant.padded c.self.view_is, c.self.invariant.padded.flags)) in
    filled_more _ c.loop-j.invariant (omega arith) read

pub returns : goal.returns
returns g c = filled_all c.loop-j.j (omega arith) c.loop-j.invariant
    ∙ (λ t. lanes_of g.row.L (λ (j : ℕ). (sym (row_is c.self.invariant.padded c.self.view_is (index_at c.args.rows j)) t).held))
