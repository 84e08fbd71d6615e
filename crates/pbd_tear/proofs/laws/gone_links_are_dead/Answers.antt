use Rattle.pbd_tear.proofs.Numbers.{numbers_gone}
use Rattle.pbd_tear.proofs.laws.gone_links_are_dead.Goals as goal

pub returns : goal.returns
returns c = numbers_gone
