use Rattle.pbd_schedule.proofs.Alike.{alike}
use Rattle.pbd_schedule.proofs.laws.legal_interleavings_agree.Goals as goal

pub returns : goal.returns
returns c = alike
