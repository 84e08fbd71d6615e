use Rattle.std.proofs.lemmas.Int.{to_z-of_z}
use Rattle.pbd_scene.specs.Values.{vector_or}
use Rattle.pbd_scene.proofs.Reading.{found_gives}
use Rattle.pbd_scene.proofs.values.Entry.vector_or_zero.Goals as goal

pub returns-in-Some-clause-value : goal.returns-in-Some-clause-value
unfolding vector_or
returns-in-Some-clause-value c =
    let fits = c.ranges.limit in
    let is = simp to_z-of_z at c.vector.ensures.value in
    rw (← c.in-Some.ensures) (found_gives _ _ _ _ is)
