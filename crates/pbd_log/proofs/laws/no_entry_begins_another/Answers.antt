use Rattle.pbd_log.proofs.Entries.{same_entry, no_prefix}
use Rattle.pbd_log.proofs.laws.no_entry_begins_another.Goals as goal

pub returns-clause-same : goal.returns-clause-same
returns-clause-same c = same_entry

pub returns-clause-prefix : goal.returns-clause-prefix
returns-clause-prefix c = no_prefix
