use Rattle.std.proofs.Common.{length}
use Rattle.pbd_schedule.specs.Drawn.{drawn}
use Rattle.pbd_schedule.proofs.Alike.{alike}
use Rattle.pbd_schedule.proofs.DrawnLegal.{drawn_legal}
use Rattle.pbd_schedule.proofs.laws.legal_interleavings_agree_with_the_drawn_one.Goals as goal

pub returns : goal.returns
returns c = λ limit bonds batch before is_batch words events legal.
    alike limit bonds batch before is_batch events (drawn words (length batch)) legal (drawn_legal words (length batch))
