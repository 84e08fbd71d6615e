use Rattle.std.proofs.Common.{codes, decimal}
use Rattle.pbd_session.specs.Printing.{frame_header}
use Rattle.pbd_session.proofs.Texts.{pieces9}
use Rattle.pbd_session.proofs.line.header_line.Goals as goal

pub returns : goal.returns
unfolding frame_header
returns c =
    rw (
      c.push.ensures,
      c.push_count-4.ensures.bytes,
      c.push_count-3.ensures.bytes,
      c.push_count-2.ensures.bytes,
      c.push_count.ensures.bytes,
      c.new-line.ensures,
      c.from.ensures,
      c.from-2.ensures,
      c.from-3.ensures,
    )
    (pieces9 (codes "frame ") (decimal c.args.steps) (codes " ") (decimal c.args.particles) (codes " ") (decimal c.args.live) (codes " ")
    (decimal c.args.contacts) (codes "\n"))
