use Rattle.std.proofs.Common.{arith, sym, ◌∙◌, false}
use Rattle.pbd_store.proofs.Listing.{count_is, row_is, any_default}
use Rattle.pbd_store.proofs.columns.Columns.get.Goals as goal

pub returns : goal.returns
returns g c =
    let count = count_is c.self.invariant.padded c.self.view_is in
    let weight = c.index.ensures ∙ any_default c.self.inside.weight.items c.args.i c.index.result.now 0
    (omega (arith, c.requires, count, c.self.invariant.padded.weights)) in
    let held = c.index-2.ensures ∙ any_default c.self.inside.held.items c.args.i c.index-2.result.now false
    (omega (arith, c.requires, count, c.self.invariant.padded.flags)) in
    (λ t. record { at = c.get.ensures t; before = c.get-2.ensures t; weight = weight t; held = held t })
    ∙ sym (row_is c.self.invariant.padded c.self.view_is c.args.i)
