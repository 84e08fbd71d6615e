use Rattle.std.proofs.Common.{sym}
use Rattle.pbd_outcome.proofs.HeadlineLaws.{headline_of}
use Rattle.pbd_outcome.proofs.HostLaws.{hosts_apart}
use Rattle.pbd_outcome.proofs.ScrambleLaws.{scrambles_alike}
use Rattle.pbd_cli.proofs.run.run.Goals as goal

pub returns-clause-outcome : goal.returns-clause-outcome
returns-clause-outcome g c = rw (sym c.job_of.ensures.job) (c.perform.ensures.promises.outcome)

pub returns-clause-headline : goal.returns-clause-headline
returns-clause-headline g c = headline_of _ (rw (sym c.job_of.ensures.job) (c.perform.ensures.promises.outcome))

pub returns-clause-scrambled : goal.returns-clause-scrambled
returns-clause-scrambled g c = scrambles_alike _ (rw (sym c.job_of.ensures.job) (c.perform.ensures.promises.outcome))

pub returns-clause-hosted : goal.returns-clause-hosted
returns-clause-hosted g c = hosts_apart _ (rw (sym c.job_of.ensures.job) (c.perform.ensures.promises.outcome))
