use Rattle.pbd_scene.proofs.values.value_of.Goals as goal

pub returns : goal.returns
returns c = rw c.name.ensures at c.find.ensures
