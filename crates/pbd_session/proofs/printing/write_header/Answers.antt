use Rattle.pbd_session.proofs.Texts.{header_parts}
use Rattle.pbd_session.proofs.printing.write_header.Goals as goal

pub returns-clause-bytes : goal.returns-clause-bytes
returns-clause-bytes g c =
    rw (← header_parts c.args.solver.now.world _ _ _ _ _ c.header_line-header.ensures c.step_count-steps.ensures.value
    c.particles-particles.ensures.value c.live-live.ensures c.contacts-contacts.ensures.value)
    c.write_line.ensures.bytes
