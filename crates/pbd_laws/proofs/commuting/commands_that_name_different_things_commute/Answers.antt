use Rattle.pbd_laws.proofs.EitherOrder.{two-commute, answers-same, lists-commute}
use Rattle.pbd_laws.proofs.commuting.commands_that_name_different_things_commute.Goals as goal

pub returns : goal.returns
returns c = record { world = two-commute; answer = answers-same; lists = lists-commute }
