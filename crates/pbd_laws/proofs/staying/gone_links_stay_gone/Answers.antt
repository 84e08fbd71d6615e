use Rattle.pbd_laws.proofs.GoneStay.{session-gone}
use Rattle.pbd_laws.proofs.staying.gone_links_stay_gone.Goals as goal

pub returns : goal.returns
returns c = session-gone
