use Rattle.std.proofs.Common.{sym}
use Rattle.pbd_run.proofs.InputLaws.{no_halves, no_scene}
use Rattle.pbd_run.proofs.halves.halves_of.Goals as goal

pub returns-in_default-clause-stopped : goal.returns-in_default-clause-stopped
returns-in_default-clause-stopped g c = no_halves c.args.input.now _ _ _ _ _ (sym c.in_default.ensures.halves) c.stop.ensures.does

pub returns-in-Err-clause-stopped : goal.returns-in-Err-clause-stopped
returns-in-Err-clause-stopped g c = no_scene c.args.input.now c.in-Some.text.now c.in-Some.script.now c.in-Err.why _ _ _ _ _
    (sym c.in-Some.ensures.halves) c.in-Err.ensures c.stop_scene.ensures
