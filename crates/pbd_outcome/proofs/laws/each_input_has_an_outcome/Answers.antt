use Rattle.pbd_outcome.proofs.SomeOutcome.{some_outcome}
use Rattle.pbd_outcome.proofs.laws.each_input_has_an_outcome.Goals as goal

pub returns : goal.returns
returns c = some_outcome
