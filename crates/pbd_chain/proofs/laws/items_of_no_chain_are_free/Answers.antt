use Rattle.pbd_chain.proofs.Walks.{not_linked}
use Rattle.pbd_chain.proofs.laws.items_of_no_chain_are_free.Goals as goal

pub returns : goal.returns
returns c = not_linked
