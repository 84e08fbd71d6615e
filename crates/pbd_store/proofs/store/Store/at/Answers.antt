use Rattle.pbd_store.proofs.store.Store.at.Goals as goal

pub returns-clause-cost : goal.returns-clause-cost
returns-clause-cost g c = c.tick.ensures
