use Rattle.std.proofs.Common.{◌∙◌, List, ap, arith}
use Rattle.pbd_num.specs.declared.Vec3.{Vec3}
use Rattle.pbd_store.specs.Listed.{place_at}
use Rattle.pbd_store.proofs.InRows.{halves_read, high_near, low_near}
use Rattle.pbd_store.proofs.rows.PlaceRows.get.Goals as goal

pub index-low-requires : goal.index-low-requires
index-low-requires c = omega (arith, low_near c.self.inside.low.items c.self.inside.high.items c.self.invariant.long c.self.view_is c.requires)

pub index-high-requires : goal.index-high-requires
index-high-requires c = omega (arith, high_near c.self.inside.low.items c.self.inside.high.items c.self.invariant.long c.self.view_is c.requires)

pub returns : goal.returns
returns c =
    let low = c.self.inside.low.items in
    let high = c.self.inside.high.items in
    c.place.ensures
    ∙ halves_read low high c.self.invariant.long c.args.i c.index-low.result.now c.index-high.result.now c.index-low.ensures c.index-high.ensures
    (low_near low high c.self.invariant.long c.self.view_is c.requires) ∙ ap (λ (vs : List Vec3). place_at vs c.args.i) c.self.view_is
