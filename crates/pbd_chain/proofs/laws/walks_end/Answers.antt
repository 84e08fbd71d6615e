use Rattle.pbd_chain.proofs.Walks.{get_none}
use Rattle.pbd_chain.proofs.laws.walks_end.Goals as goal

pub returns : goal.returns
returns c = get_none
