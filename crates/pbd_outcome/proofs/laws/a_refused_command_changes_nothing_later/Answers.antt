use Rattle.pbd_outcome.proofs.HeadlineLaws.{refused_text}
use Rattle.pbd_outcome.proofs.laws.a_refused_command_changes_nothing_later.Goals as goal

pub returns : goal.returns
returns c = refused_text
