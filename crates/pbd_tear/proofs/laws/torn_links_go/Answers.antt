use Rattle.pbd_tear.proofs.Numbers.{numbers_go}
use Rattle.pbd_tear.proofs.laws.torn_links_go.Goals as goal

pub returns : goal.returns
returns c = numbers_go
