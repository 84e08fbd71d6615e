use Rattle.pbd_state.proofs.Lawful.{read_back}
use Rattle.pbd_state.proofs.laws.what_was_written_is_read.Goals as goal

pub returns : goal.returns
returns c = read_back
