use Rattle.pbd_world.proofs.VerbLaws.{together, parted}
use Rattle.pbd_world.proofs.laws.commands_are_their_parts.Goals as goal

pub returns-clause-together : goal.returns-clause-together
returns-clause-together c = λ command. (together command).again

pub returns-clause-apart : goal.returns-clause-apart
returns-clause-apart c = parted
