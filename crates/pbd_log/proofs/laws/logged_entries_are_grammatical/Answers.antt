use Rattle.pbd_log.proofs.Kept.{kept_is, logged_are}
use Rattle.pbd_log.proofs.laws.logged_entries_are_grammatical.Goals as goal

pub returns-clause-one : goal.returns-clause-one
returns-clause-one c = kept_is

pub returns-clause-all : goal.returns-clause-all
returns-clause-all c = logged_are
