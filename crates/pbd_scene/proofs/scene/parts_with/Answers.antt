use Rattle.std.proofs.Common.{ap, w64, FitsSigned}
use Rattle.std.proofs.lemmas.Int.{to_z-of_z}
use Rattle.std.proofs.lemmas.Result.{IfOk-at_ok}
use Rattle.pbd_world.specs.declared.parts.Parts.{Parts}
use Rattle.pbd_mesh.proofs.Facts.{limit_bounds}
use Rattle.pbd_scene.specs.Calls.{from_tables}
use Rattle.pbd_scene.proofs.Bounds.{limit_clauses}
use Rattle.pbd_scene.proofs.Reading.{stops}
use Rattle.pbd_scene.proofs.Validity.{tables_fit, TablesFit}
use Rattle.pbd_scene.proofs.Parted.{cloths_fit, ropes_fit, meshes_room, meshed_now, places_within}
use Rattle.pbd_scene.proofs.scene.parts_with.Goals.{In_ok-tables}
use Rattle.pbd_scene.proofs.scene.parts_with.Goals as goal

-- what the tables hold fits
tables_are_fit : (c : In_ok-tables) → TablesFit c.args.limit c.in_ok-tables.tables
tables_are_fit c =
    let fits = c.ranges.limit in
    tables_fit c.args.limit _ c.in_ok-tables.tables (limit_bounds c.args.limit c.requires).0 (simp to_z-of_z at c.in_ok-tables.ensures)

pub tables_of-requires : goal.tables_of-requires
tables_of-requires c =
    let bounds = limit_clauses c.args.limit c.ranges.limit c.requires in
    record { low = bounds.0; high = bounds.1 }

pub add_meshes-meshed-requires : goal.add_meshes-meshed-requires
add_meshes-meshed-requires c =
    let fits = c.ranges.limit in
    let its = simp to_z-of_z at (ap (λ (p : Parts). p.limit) c.plain_parts-parts.ensures) in
    let room : FitsSigned w64 c.plain_parts-parts.result.limit = rw its fits in
    let fit = tables_are_fit (goal.at.add_meshes-meshed-requires c).In_ok-tables in
    record {
      limit = rw its c.requires;
      cloths = cloths_fit c.args.limit _ c.in_ok-tables.tables c.as_slice.result.now c.as_slice.ensures its fit;
      ropes = ropes_fit c.args.limit _ c.in_ok-tables.tables c.as_slice-2.result.now c.as_slice-2.ensures its fit;
      room = rw (ap (λ (p : Parts). p.particles) c.plain_parts-parts.ensures)
          (meshes_room c.args.limit c.in_ok-tables.tables c.as_slice.result.now c.as_slice-2.result.now c.as_slice.ensures
          c.as_slice-2.ensures fit);
    }

pub with_entries-requires : goal.with_entries-requires
with_entries-requires c =
    let fits = c.ranges.limit in
    let fit = tables_are_fit (goal.at.with_entries-requires c).In_ok-tables in
    let grown = simp (to_z-of_z, c.plain_parts-parts.ensures) at (IfOk-at_ok _ c.in-Ok.is c.add_meshes-meshed.ensures) in
    let meshed = meshed_now c.args.limit c.args.settings.now c.in_ok-tables.tables c.add_meshes-meshed.new.parts c.as_slice.result.now
    c.as_slice-2.result.now grown c.as_slice.ensures c.as_slice-2.ensures c.requires fit in
    record {
      few = meshed.few;
      places = places_within c.args.limit _ c.add_meshes-meshed.new.parts c.requires meshed;
      links = fit.few_links;
      tracks = fit.few_tracks;
    }

pub returns-in_err-tables : goal.returns-in_err-tables
unfolding from_tables
returns-in_err-tables c =
    let fits = c.ranges.limit in
    let fails = simp to_z-of_z at c.in_err-tables.ensures in
    stops _ _ _ _ _ c.from_residual.ensures.1 fails
