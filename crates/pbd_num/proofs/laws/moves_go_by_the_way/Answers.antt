use Rattle.pbd_num.proofs.Ways.{pair_moves-along}
use Rattle.pbd_num.proofs.laws.moves_go_by_the_way.Goals as goal

pub returns : goal.returns
returns c = pair_moves-along
