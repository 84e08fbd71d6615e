use Rattle.pbd_chain.proofs.Walks.{get_in}
use Rattle.pbd_chain.proofs.laws.walked_items_are_in.Goals as goal

pub returns : goal.returns
returns c = get_in
