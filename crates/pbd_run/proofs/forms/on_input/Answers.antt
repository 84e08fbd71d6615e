use Rattle.pbd_outcome.specs.Outcome.{meshed, hosted}
use Rattle.pbd_run.proofs.RunLaws.{did_one}
use Rattle.pbd_run.proofs.forms.on_input.Goals as goal

pub returns-in-Obj : goal.returns-in-Obj
returns-in-Obj g c = rw c.in-Obj.is (did_one (meshed c.args.input.now) _ _ _ _ _ c.obj_input.ensures)

pub returns-in-Host : goal.returns-in-Host
returns-in-Host g c = rw c.in-Host.is (did_one (hosted c.args.input.now) _ _ _ _ _ c.host_input.ensures)
