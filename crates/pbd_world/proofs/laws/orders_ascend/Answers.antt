use Rattle.pbd_world.proofs.OrderLemmas.{order_ascends}
use Rattle.pbd_world.proofs.laws.orders_ascend.Goals as goal

pub returns : goal.returns
returns c = order_ascends
