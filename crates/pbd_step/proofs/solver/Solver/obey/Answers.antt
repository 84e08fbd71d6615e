use Rattle.pbd_step.proofs.Keeping.{answers}
use Rattle.pbd_step.proofs.solver.Solver.obey.Goals as goal

pub returns-clause-does : goal.returns-clause-does
returns-clause-does g c = answers c.args.command.now c.carry_out-outcome.ensures.commanded c.told.ensures
