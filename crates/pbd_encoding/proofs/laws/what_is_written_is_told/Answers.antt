use Rattle.pbd_encoding.proofs.Forming.{written_told}
use Rattle.pbd_encoding.proofs.laws.what_is_written_is_told.Goals as goal

pub returns : goal.returns
returns c = written_told
