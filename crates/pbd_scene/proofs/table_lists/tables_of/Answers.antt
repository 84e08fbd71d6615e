use Rattle.std.proofs.lemmas.Int.{to_z-of_z}
use Rattle.pbd_scene.proofs.table_lists.tables_of.Goals as goal

pub invariant_of-limit : goal.invariant_of-limit
invariant_of-limit c =
    let fits = c.ranges.limit in
    record { low = simp to_z-of_z c.requires.low; high = simp to_z-of_z c.requires.high }

pub returns-in-Ok : goal.returns-in-Ok
returns-in-Ok c =
    let fits = c.ranges.limit in
    simp to_z-of_z at (rw c.in-Ok.is at c.fill.ensures)

pub returns-in-Err : goal.returns-in-Err
returns-in-Err c =
    let fits = c.ranges.limit in
    simp to_z-of_z at (rw c.in-Err.is at c.fill.ensures)
