use Rattle.pbd_outcome.proofs.ShortRecords.{recorded_short}
use Rattle.pbd_outcome.proofs.laws.a_recorded_log_is_accepted.Goals as goal

pub returns : goal.returns
returns c = recorded_short
