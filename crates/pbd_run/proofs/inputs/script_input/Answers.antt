use Rattle.pbd_run.proofs.InputLaws.{recordable, script_done, script_stopped}
use Rattle.pbd_run.proofs.inputs.script_input.Goals as goal

pub on_halves-requires : goal.on_halves-requires
on_halves-requires g c = recordable c.args.input.now c.in-Ok.halves.text.now c.in-Ok.halves.scene c.in-Ok.halves.script.now
    c.in-Ok.ensures.halves c.requires

pub returns-in-Ok : goal.returns-in-Ok
returns-in-Ok g c = rw c.in-Ok.ensures.unwritten at (script_done c.args.job c.args.input.now c.in-Ok.halves.text.now c.in-Ok.halves.scene
    c.in-Ok.halves.script.now _ _ _ _ _ c.in-Ok.ensures.halves c.on_halves.ensures)

pub returns-in-Err : goal.returns-in-Err
returns-in-Err g c = script_stopped c.args.job c.args.input.now _ _ _ _ _ c.in-Err.ensures.stopped
