use Rattle.std.proofs.Common.{arith}
use Rattle.pbd_store.proofs.Filling.{filled_all}
use Rattle.pbd_store.proofs.rows.numbers_from.Goals as goal

pub returns : goal.returns
returns g c = filled_all c.loop-j.j (omega arith) c.loop-j.invariant
