use Rattle.pbd_laws.proofs.LogCommands.{logged-commands}
use Rattle.pbd_laws.proofs.costs.logs_have_the_commands_of_their_script.Goals as goal

pub returns : goal.returns
returns c = logged-commands
