use Rattle.std.proofs.Common.{ap, ◌∙◌, ℕ, slice_set}
use Rattle.pbd_store.proofs.Listing.{all_kept, all_listed}
use Rattle.pbd_store.proofs.columns.Columns.replace.Goals as goal

pub invariant_of-self : goal.invariant_of-self
invariant_of-self g c = all_kept c.self.invariant.padded c.self.view_is c.set.new.self c.args.i c.args.particle.at c.requires c.set.ensures
    c.set-2.new.self c.args.particle.before c.set-2.ensures c.set_weight.new.column.items c.args.particle.weight c.set_weight.ensures
    c.set_flag.new.column.items c.args.particle.held c.set_flag.ensures c.self.inside.effective.items c.set_weight-2.new.column.items
    c.self.invariant.long c.self.invariant.weighs (c.set_weight-2.ensures
    ∙ ap (λ (w : ℕ). slice_set c.self.inside.effective.items c.args.i w)
    c.effective_weight_of.ensures)

pub returns : goal.returns
returns g c = all_listed c.self.invariant.padded c.self.view_is c.set.new.self c.args.i c.args.particle.at c.requires c.set.ensures
    c.set-2.new.self
    c.args.particle.before c.set-2.ensures c.set_weight.new.column.items c.args.particle.weight c.set_weight.ensures
    c.set_flag.new.column.items
    c.args.particle.held c.set_flag.ensures
