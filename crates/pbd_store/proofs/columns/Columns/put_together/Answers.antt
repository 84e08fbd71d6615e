use Rattle.pbd_store.proofs.Listing.{from_kept, from_listed}
use Rattle.pbd_store.proofs.columns.Columns.put_together.Goals as goal

pub invariant_of-result : goal.invariant_of-result
invariant_of-result g c = from_kept c.args.particles.now g.row.L c.requires.few c.args.at c.args.before c.args.weights.weight.items
    c.args.weights.held.items
    c.requires.at c.requires.before c.requires.weight c.requires.held c.args.weights.effective.items c.requires.effective

pub returns : goal.returns
returns g c = from_listed c.args.particles.now g.row.L c.requires.few c.args.at c.args.before c.args.weights.weight.items c.args.weights.held.items
    c.requires.at
    c.requires.before c.requires.weight c.requires.held
