use Rattle.pbd_scene.proofs.values.Entry.integer.Goals as goal

pub returns-else-low-n-clause-low : goal.returns-else-low-n-clause-low
returns-else-low-n-clause-low c = rw c.broken.ensures tt

pub returns-else-low-n-clause-high : goal.returns-else-low-n-clause-high
returns-else-low-n-clause-high c = rw c.broken.ensures tt
