use Rattle.pbd_store.proofs.Listing.{count_is}
use Rattle.pbd_store.proofs.columns.Columns.len.Goals as goal

pub returns-clause-value : goal.returns-clause-value
returns-clause-value g c = count_is c.self.invariant.padded c.self.view_is
