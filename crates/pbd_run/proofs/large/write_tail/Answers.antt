use Rattle.pbd_io.specs.Appending.{piece_then, prefix_longer}
use Rattle.pbd_world.specs.Replay.{frame_sums}
use Rattle.pbd_outcome.specs.Generated.{sums_line}
use Rattle.pbd_run.proofs.LargeLaws.{cause_then}
use Rattle.pbd_run.proofs.large.write_tail.Goals as goal

pub returns-in-Err-clause-bytes : goal.returns-in-Err-clause-bytes
returns-in-Err-clause-bytes g c =
    prefix_longer _ _ (sums_line (frame_sums c.args.session.now)) _
    (rw (c.as_slice.ensures, c.sums_line.ensures, c.frame_sums-sums.ensures.value) at c.in-Err.ensures.bytes)

pub returns-in-Err-clause-cause : goal.returns-in-Err-clause-cause
returns-in-Err-clause-cause g c = c.in-Err.ensures.cause

pub returns-clause-bytes : goal.returns-clause-bytes
returns-clause-bytes g c =
    piece_then _ _ _ c.write_reply.result (sums_line (frame_sums c.args.session.now)) _
    (rw (c.as_slice.ensures, c.sums_line.ensures, c.frame_sums-sums.ensures.value) at c.in_default.ensures.bytes)
    c.write_reply.ensures.bytes

pub returns-clause-cause : goal.returns-clause-cause
returns-clause-cause g c = cause_then _ _ _ c.write_reply.result c.in_default.ensures.cause.later c.write_reply.ensures.cause
