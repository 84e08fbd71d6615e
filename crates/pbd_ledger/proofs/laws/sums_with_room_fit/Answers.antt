use Rattle.pbd_ledger.proofs.Adding.{room_fits}
use Rattle.pbd_ledger.proofs.laws.sums_with_room_fit.Goals as goal

pub returns : goal.returns
returns c = room_fits
