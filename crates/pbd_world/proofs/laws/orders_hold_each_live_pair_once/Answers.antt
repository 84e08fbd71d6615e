use Rattle.std.proofs.Common.{ap, ◌∙◌}
use Rattle.std.specs.Prelude.{cond}
use Rattle.pbd_world.proofs.OrderLemmas.{order_counts, order_ends}
use Rattle.pbd_world.proofs.laws.orders_hold_each_live_pair_once.Goals as goal

pub returns-clause-live : goal.returns-clause-live
returns-clause-live c pairs live k h e = order_counts pairs live k h ∙ ap (λ b. cond b 1 0) e

pub returns-clause-gone : goal.returns-clause-gone
returns-clause-gone c pairs live k h e = order_counts pairs live k h ∙ ap (λ b. cond b 1 0) e

pub returns-clause-within : goal.returns-clause-within
returns-clause-within c = order_ends
