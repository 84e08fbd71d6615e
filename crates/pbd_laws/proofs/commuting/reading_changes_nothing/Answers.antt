use Rattle.pbd_laws.proofs.EitherOrder.{frame-reads, ledger-reads}
use Rattle.pbd_laws.proofs.commuting.reading_changes_nothing.Goals as goal

pub returns : goal.returns
returns c = record { frame = frame-reads; ledger = ledger-reads }
