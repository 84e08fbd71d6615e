use Rattle.pbd_encoding.proofs.Going.{refused_exactly}
use Rattle.pbd_encoding.proofs.laws.refusals_are_exact.Goals as goal

pub returns : goal.returns
returns c = refused_exactly
