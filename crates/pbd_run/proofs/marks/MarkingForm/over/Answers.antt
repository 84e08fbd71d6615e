use Rattle.pbd_run.proofs.MarkedRuns.{refused_marks, served_marks}
use Rattle.pbd_run.proofs.SessionLaws.{marks_did, told_as}
use Rattle.pbd_run.proofs.marks.MarkingForm.over.Goals as goal

pub returns-in-Ok : goal.returns-in-Ok
returns-in-Ok g c =
    let run = c.serve_script-ended.ensures in
    marks_did _ c.args.self.scene.now c.args.self.script.now _ _ _ _ _ _ c.in-Ok.ensures c.status_of.ensures
    (told_as (served_marks _ _) (refused_marks _ _) (record { bytes = run.bytes; ended = run.refused; cause = run.cause }))
