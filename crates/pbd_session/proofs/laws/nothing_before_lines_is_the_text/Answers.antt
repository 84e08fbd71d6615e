use Rattle.pbd_session.proofs.Texts.{nothing_before}
use Rattle.pbd_session.proofs.laws.nothing_before_lines_is_the_text.Goals as goal

pub returns : goal.returns
returns c = nothing_before
