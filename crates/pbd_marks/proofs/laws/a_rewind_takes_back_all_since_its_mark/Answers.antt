use Rattle.pbd_marks.proofs.MarkedLaws.{takes_back}
use Rattle.pbd_marks.proofs.laws.a_rewind_takes_back_all_since_its_mark.Goals as goal

pub returns : goal.returns
returns c = takes_back
