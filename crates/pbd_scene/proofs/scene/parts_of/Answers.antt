use Rattle.std.proofs.lemmas.Int.{to_z-of_z}
use Rattle.pbd_scene.specs.Scene.{scene_of}
use Rattle.pbd_scene.specs.Calls.{from_tables}
use Rattle.pbd_scene.proofs.Reading.{bind_fails}
use Rattle.pbd_scene.proofs.Bounds.{limit_clauses}
use Rattle.pbd_scene.proofs.scene.parts_of.Goals as goal

pub settings_of-requires : goal.settings_of-requires
settings_of-requires c =
    let bounds = limit_clauses c.args.limit c.ranges.limit c.requires in
    record { low = bounds.0; high = bounds.1 }

pub returns-in-Ok : goal.returns-in-Ok
unfolding scene_of from_tables
returns-in-Ok c =
    let fits = c.ranges.limit in
    let settled = simp to_z-of_z at c.in-Ok.ensures in
    let is = simp to_z-of_z at c.parts_with-parts.ensures in
    rw settled is

pub returns-in-Err : goal.returns-in-Err
unfolding scene_of
returns-in-Err c =
    let fits = c.ranges.limit in
    let fails = simp to_z-of_z at c.in-Err.ensures in
    bind_fails _ _ _ fails
