use Rattle.pbd_chain.proofs.Walks.{in_linked}
use Rattle.pbd_chain.proofs.laws.linking_adds_one.Goals as goal

pub returns : goal.returns
returns c = in_linked
