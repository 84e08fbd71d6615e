use Rattle.pbd_schedule.proofs.DrawnLegal.{drawn_legal}
use Rattle.pbd_schedule.proofs.laws.drawn_events_are_legal.Goals as goal

pub returns : goal.returns
returns c = drawn_legal
