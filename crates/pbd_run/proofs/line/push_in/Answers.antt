use Rattle.pbd_run.proofs.HostingLaws.{ended_in}
use Rattle.pbd_run.proofs.line.push_in.Goals as goal

pub returns : goal.returns
returns c = rw (c.push-2.ensures, c.push_number.ensures.bytes, c.push.ensures, c.from.ensures) (ended_in c.args.n c.args.line.now)
