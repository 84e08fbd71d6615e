use Rattle.pbd_run.proofs.GeneratedValid.{generated_valid}
use Rattle.pbd_run.proofs.generated.generated.Goals as goal

pub returns-in-Ok-clause-valid : goal.returns-in-Ok-clause-valid
returns-in-Ok-clause-valid c = rw c.in-Ok.ensures (generated_valid c.args.number c.args.size c.requires.low c.requires.high)
