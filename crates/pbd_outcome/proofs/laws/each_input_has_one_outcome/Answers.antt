use Rattle.pbd_outcome.proofs.OneOutcome.{one_outcome}
use Rattle.pbd_outcome.proofs.laws.each_input_has_one_outcome.Goals as goal

pub returns : goal.returns
returns c = one_outcome
