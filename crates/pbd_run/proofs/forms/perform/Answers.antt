use Rattle.std.proofs.Common.{◌≡◌, ◌∙◌, Some, ap}
use Rattle.pbd_outcome.specs.declared.job.Job.TheVariants.{Large}
use Rattle.pbd_run.proofs.RunLaws.{unread_usage, unread_large}
use Rattle.pbd_run.proofs.forms.perform.Goals as goal

pub returns-in_default-clause-promises : goal.returns-in_default-clause-promises
returns-in_default-clause-promises g c = rw c.in_default.is (unread_usage _ _ c.stop.result c.stop.ensures.memory c.stop.ensures.does)

pub returns-in-Large-clause-promises : goal.returns-in-Large-clause-promises
returns-in-Large-clause-promises g c =
    let e : c.args.job ≡ Some (Large c.in-Large.width c.in-Large.seed c.in-Large.size) = c.in-Some.is ∙ ap (λ j. Some j) c.in-Large.is in
    rw e (unread_large c.in-Large.width c.in-Large.seed c.in-Large.size _ _ c.large_run.result c.large_run.ensures)
