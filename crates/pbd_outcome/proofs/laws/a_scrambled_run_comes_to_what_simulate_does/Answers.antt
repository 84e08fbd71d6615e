use Rattle.pbd_outcome.proofs.ScrambleLaws.{scrambled_outcome}
use Rattle.pbd_outcome.proofs.laws.a_scrambled_run_comes_to_what_simulate_does.Goals as goal

pub returns : goal.returns
returns c = scrambled_outcome
