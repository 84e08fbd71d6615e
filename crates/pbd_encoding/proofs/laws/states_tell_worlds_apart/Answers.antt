use Rattle.pbd_encoding.proofs.Back.{worlds_apart}
use Rattle.pbd_encoding.proofs.laws.states_tell_worlds_apart.Goals as goal

pub returns : goal.returns
returns c = worlds_apart
