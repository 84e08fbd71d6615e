use Rattle.pbd_encoding.proofs.Sections.{state_long}
use Rattle.pbd_encoding.proofs.laws.sizes_are_known.Goals as goal

pub returns : goal.returns
returns c = state_long
