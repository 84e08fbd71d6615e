use Rattle.pbd_world.proofs.SessionSound.{undamped-balance}
use Rattle.pbd_world.proofs.laws.equal_weights_keep_momentum.Goals as goal

pub returns : goal.returns
returns c = undamped-balance
