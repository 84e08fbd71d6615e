use Rattle.pbd_run.proofs.SessionLaws.{host_did}
use Rattle.pbd_run.proofs.host.HostingForm.over.Goals as goal

pub returns-in-Ok : goal.returns-in-Ok
returns-in-Ok g c =
    let run = c.serve_all-ended.ensures in
    host_did _ c.args.self.scenes.now c.args.self.lines.now _ _ _ _ _ _ c.in-Ok.ensures.worlds c.status_of.ensures
    (record { bytes = run.bytes; ended = run.refused; cause = run.cause })
