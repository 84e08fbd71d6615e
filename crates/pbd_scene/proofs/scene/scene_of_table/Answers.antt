use Rattle.std.proofs.lemmas.Int.{to_z-of_z}
use Rattle.toml.specs.View.{table_view}
use Rattle.pbd_scene.proofs.Reading.{fails_so}
use Rattle.pbd_scene.proofs.Validity.{scene_valid}
use Rattle.pbd_scene.proofs.scene.scene_of_table.Goals as goal

pub scene_of_parts-requires : goal.scene_of_parts-requires
scene_of_parts-requires c =
    let fits = c.ranges.limit in
    let is = simp to_z-of_z at c.in_ok-parts.ensures in
    scene_valid c.args.limit (table_view c.args.members.now) c.in_ok-parts.parts c.requires is

pub returns-in_err-parts : goal.returns-in_err-parts
returns-in_err-parts c =
    let fits = c.ranges.limit in
    let fails = simp to_z-of_z at c.in_err-parts.ensures in
    fails_so _ _ _ _ c.from_residual.ensures.1 fails
