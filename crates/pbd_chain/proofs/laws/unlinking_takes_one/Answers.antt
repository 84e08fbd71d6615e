use Rattle.pbd_chain.proofs.Walks.{in_unlinked}
use Rattle.pbd_chain.proofs.laws.unlinking_takes_one.Goals as goal

pub returns : goal.returns
returns c = in_unlinked
