use Rattle.pbd_outcome.proofs.OldLogs.{old_replayed, old_world}
use Rattle.pbd_outcome.proofs.laws.an_old_log_replays_with_its_own_limit.Goals as goal

pub returns-clause-outcome : goal.returns-clause-outcome
returns-clause-outcome c = old_replayed

pub returns-clause-limit : goal.returns-clause-limit
returns-clause-limit c = old_world
