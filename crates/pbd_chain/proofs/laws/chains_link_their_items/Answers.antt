use Rattle.pbd_chain.proofs.Walks.{chain_linked}
use Rattle.pbd_chain.proofs.laws.chains_link_their_items.Goals as goal

pub returns : goal.returns
returns c = chain_linked
