use Rattle.pbd_scene.proofs.scene.with_entries.Goals as goal

pub returns-in-Ok : goal.returns-in-Ok
returns-in-Ok c = simp (c.as_slice.ensures, c.as_slice-2.ensures) at (rw c.in-Ok.is at c.add_entries-added.ensures)

pub returns-in-Err : goal.returns-in-Err
returns-in-Err c = simp (c.as_slice.ensures, c.as_slice-2.ensures) at (rw c.in-Err.is at c.add_entries-added.ensures)
