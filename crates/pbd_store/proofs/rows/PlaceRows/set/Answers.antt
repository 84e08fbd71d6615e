use Rattle.std.proofs.Common.{◌∙◌, arith, slice_set}
use Rattle.pbd_store.proofs.InRows.{halves_set, high_near, low_near}
use Rattle.pbd_store.proofs.rows.PlaceRows.set.Goals as goal

pub index_mut-requires : goal.index_mut-requires
index_mut-requires c = omega (arith, low_near c.self.inside.low.items c.self.inside.high.items c.self.invariant.long c.self.view_is c.requires)

pub index_mut-requires-2 : goal.index_mut-requires-2
index_mut-requires-2 c = omega (arith, high_near c.self.inside.low.items c.self.inside.high.items c.self.invariant.long c.self.view_is c.requires)

pub returns : goal.returns
returns c =
    let low = c.self.inside.low.items in
    let high = c.self.inside.high.items in
    halves_set low high c.self.invariant.long c.args.i c.of-halves.result.low c.of-halves.result.high
    (low_near low high c.self.invariant.long c.self.view_is c.requires)
    ∙ (λ t. slice_set (c.self.view_is t) c.args.i (c.of-halves.ensures.place t))
