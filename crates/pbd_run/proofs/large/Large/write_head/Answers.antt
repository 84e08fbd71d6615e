use Rattle.pbd_io.specs.Appending.{piece_then, prefix_longer}
use Rattle.pbd_outcome.specs.Generated.{large_line}
use Rattle.pbd_run.proofs.LargeLaws.{cause_then}
use Rattle.pbd_run.proofs.large.Large.write_head.Goals as goal

pub returns-in-Err-clause-bytes : goal.returns-in-Err-clause-bytes
returns-in-Err-clause-bytes g c = prefix_longer _ _ (large_line c.args.self.number c.args.self.size) _
    (rw (c.as_slice.ensures, c.large_line.ensures) at c.in-Err.ensures.bytes)

pub returns-in-Err-clause-cause : goal.returns-in-Err-clause-cause
returns-in-Err-clause-cause g c = c.in-Err.ensures.cause

pub returns-clause-bytes : goal.returns-clause-bytes
returns-clause-bytes g c =
    piece_then _ _ _ c.write_reply.result (large_line c.args.self.number c.args.self.size) _
    (rw (c.as_slice.ensures, c.large_line.ensures) at c.in_default.ensures.bytes) c.write_reply.ensures.bytes

pub returns-clause-cause : goal.returns-clause-cause
returns-clause-cause g c = cause_then _ _ _ c.write_reply.result c.in_default.ensures.cause.later c.write_reply.ensures.cause
