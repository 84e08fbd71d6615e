use Rattle.pbd_session.proofs.Texts.{nothing_before}
use Rattle.pbd_session.proofs.session.Session.write_reply.Goals as goal

pub returns-clause-bytes : goal.returns-clause-bytes
returns-clause-bytes g c = rw (← nothing_before c.args.self.now c.args.reply.now) c.write_after.ensures.bytes
