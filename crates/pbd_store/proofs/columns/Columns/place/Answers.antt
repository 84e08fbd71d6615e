use Rattle.std.proofs.Common.{arith}
use Rattle.pbd_store.proofs.Listing.{count_is, place_kept, place_listed}
use Rattle.pbd_store.proofs.columns.Columns.place.Goals as goal

pub set-requires : goal.set-requires
set-requires g c = omega (arith, c.requires, count_is c.self.invariant.padded c.self.view_is, c.self.invariant.padded.places)

pub invariant_of-self : goal.invariant_of-self
invariant_of-self g c = place_kept c.self.invariant.padded c.self.view_is c.set.new.self c.args.i c.args.place c.requires c.set.ensures
    c.self.inside.effective.items c.self.invariant.long c.self.invariant.weighs

pub returns : goal.returns
returns g c = place_listed c.self.invariant.padded c.self.view_is c.set.new.self c.args.i c.args.place c.requires c.set.ensures
