use Rattle.pbd_scene.specs.Scene.{tables_of}
use Rattle.pbd_scene.proofs.Reading.{stops}
use Rattle.pbd_scene.proofs.table_lists.fill.Goals as goal

pub returns-in_err-tables : goal.returns-in_err-tables
unfolding tables_of
returns-in_err-tables c = stops _ _ _ _ _ c.from_residual.ensures.1 c.in_err-tables.ensures.value

pub returns-in_err-tables-2 : goal.returns-in_err-tables-2
unfolding tables_of
returns-in_err-tables-2 c =
    let fails = simp c.len-count.ensures at c.in_err-tables-2.ensures.value in
    rw c.in_ok-tables.ensures.value (stops _ _ _ _ _ c.from_residual-in_err-tables-2.ensures.1 fails)

pub returns-in_err-tables-3 : goal.returns-in_err-tables-3
unfolding tables_of
returns-in_err-tables-3 c =
    let cloths = simp c.len-count.ensures at c.in_ok-tables-2.ensures.value in
    let fails = simp (c.len-count.ensures, c.all_sizes.ensures, c.as_slice.ensures) at c.in_err-tables-3.ensures.value in
    rw (c.in_ok-tables.ensures.value, cloths) (stops _ _ _ _ _ c.from_residual-in_err-tables-3.ensures.1 fails)

pub fill_from_links-requires : goal.fill_from_links-requires
fill_from_links-requires c = record {
  particles = c.in_ok-tables.ensures.value;
  cloths = simp c.len-count.ensures at c.in_ok-tables-2.ensures.value;
  ropes = simp (c.len-count.ensures, c.all_sizes.ensures, c.as_slice.ensures) at c.in_ok-tables-3.ensures.value;
}
