use Rattle.pbd_encoding.proofs.Telling.{told_state}
use Rattle.pbd_encoding.proofs.laws.what_is_told_is_written.Goals as goal

pub returns : goal.returns
returns c = told_state
