use Rattle.pbd_io.specs.Appending.{appends_then, prefix_then, prefix_longer}
use Rattle.pbd_outcome.specs.Generated.{summary, summary_head, summary_tail}
use Rattle.pbd_run.proofs.large.Large.run.Goals as goal

pub returns-in-Err-clause-bytes : goal.returns-in-Err-clause-bytes
unfolding summary
returns-in-Err-clause-bytes g c = rw (← c.apply-reply.ensures.world, ← c.apply-reply.ensures.reply)
    (prefix_longer _ _ (summary_head c.args.self.number c.args.self.size c.apply-reply.new.self c.apply-reply.result)
    (summary_tail c.apply-reply.new.self) c.in-Err.ensures.bytes)

pub returns-in-Ok-clause-bytes : goal.returns-in-Ok-clause-bytes
unfolding summary
returns-in-Ok-clause-bytes g c = rw (← c.apply-reply.ensures.world, ← c.apply-reply.ensures.reply)
    (appends_then _ _ _ _ _ c.in_default.ensures.bytes c.in-Ok.ensures.bytes)

pub returns-in-Err-write_tail-clause-bytes : goal.returns-in-Err-write_tail-clause-bytes
unfolding summary
returns-in-Err-write_tail-clause-bytes g c = rw (← c.apply-reply.ensures.world, ← c.apply-reply.ensures.reply)
    (prefix_then _ _ _ _ _ c.in_default.ensures.bytes c.in-Err-write_tail.ensures.bytes)
