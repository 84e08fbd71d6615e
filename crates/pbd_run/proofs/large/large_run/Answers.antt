use Rattle.std.proofs.Common.{◌∙◌}
use Rattle.pbd_run.proofs.LargeLaws.{large_did}
use Rattle.pbd_run.proofs.large.large_run.Goals as goal

pub returns-in-Ok-from_parts : goal.returns-in-Ok-from_parts
returns-in-Ok-from_parts g c = large_did c.args.large.number c.args.large.size c.in-Ok-from_parts.scene _ _ _ _ _
    (c.in-Ok-from_parts.ensures.ok ∙ c.in-Ok.ensures.parts) c.run_task.ensures
