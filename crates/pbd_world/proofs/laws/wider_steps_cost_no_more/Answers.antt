use Rattle.pbd_world.proofs.WorkLemmas.{step_wider, command_wider, session_wider}
use Rattle.pbd_world.proofs.laws.wider_steps_cost_no_more.Goals as goal

pub returns-clause-step : goal.returns-clause-step
returns-clause-step c = step_wider

pub returns-clause-command : goal.returns-clause-command
returns-clause-command c width lanes wider more w command some wide any h = command_wider width lanes wider more some wide any h w command

pub returns-clause-session : goal.returns-clause-session
returns-clause-session c width lanes wider more w commands some wide any h = session_wider width lanes wider more some wide any h w commands
