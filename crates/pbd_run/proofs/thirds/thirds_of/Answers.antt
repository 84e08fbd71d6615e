use Rattle.std.proofs.Common.{sym}
use Rattle.pbd_outcome.specs.Outcome.{range}
use Rattle.pbd_outcome.proofs.SceneLimits.{its_limit}
use Rattle.pbd_run.proofs.ThirdsLaws.{halves_stop, mesh_stops, no_outer, thirds_are}
use Rattle.pbd_run.proofs.thirds.thirds_of.Goals as goal

pub returns-in_default-clause-stopped : goal.returns-in_default-clause-stopped
returns-in_default-clause-stopped g c = no_outer c.args.input.now _ _ _ _ _ (sym c.in_default.ensures.halves) c.stop.ensures.does

pub in_scene-requires-clause-limit : goal.in_scene-requires-clause-limit
in_scene-requires-clause-limit g c = its_limit range c.in-Ok.halves.text.now c.in-Ok.halves.scene c.in-Ok.ensures.halves.scene

pub returns-in-Ok-in_scene-clause-thirds : goal.returns-in-Ok-in_scene-clause-thirds
returns-in-Ok-in_scene-clause-thirds g c =
    rw c.in-Ok-in_scene.ensures.script (thirds_are c.args.input.now c.in-Some.text.now c.in-Some.rest.now c.in-Ok.halves.text.now
    c.in-Ok.halves.scene c.in-Ok.halves.script.now c.in-Ok-in_scene.thirds.mesh c.in-Ok-in_scene.thirds.base
    c.in-Ok-in_scene.thirds.scene (sym c.in-Some.ensures.halves) c.in-Ok.ensures.halves c.in-Ok-in_scene.ensures.ok)

pub returns-in-Err-in_scene-clause-stopped : goal.returns-in-Err-in_scene-clause-stopped
returns-in-Err-in_scene-clause-stopped g c =
    rw c.in-Ok.ensures.unwritten at (mesh_stops c.args.input.now c.in-Some.text.now c.in-Some.rest.now c.in-Ok.halves.text.now
    c.in-Ok.halves.scene c.in-Ok.halves.script.now c.in-Err-in_scene.fault _ _ _ _ _
    (sym c.in-Some.ensures.halves) c.in-Ok.ensures.halves c.in-Err-in_scene.ensures.err c.stop_mesh.ensures)

pub returns-in-Err-clause-stopped : goal.returns-in-Err-clause-stopped
returns-in-Err-clause-stopped g c = halves_stop c.args.input.now c.in-Some.text.now c.in-Some.rest.now _ _ _ _ _
    (sym c.in-Some.ensures.halves) c.in-Err.ensures.stopped
