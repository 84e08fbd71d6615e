use Rattle.std.proofs.lemmas.Int.{to_z-of_z}
use Rattle.pbd_scene.specs.Values.{optional_integer, integer_or}
use Rattle.pbd_scene.proofs.Reading.{found_gives}
use Rattle.pbd_scene.proofs.values.Entry.integer_or.Goals as goal

pub returns-in-Some-clause-low : goal.returns-in-Some-clause-low
returns-in-Some-clause-low c =
    let least = c.ranges.low in
    simp to_z-of_z at c.integer.ensures.low

pub returns-in-Some-clause-high : goal.returns-in-Some-clause-high
returns-in-Some-clause-high c =
    let most = c.ranges.high in
    simp to_z-of_z at c.integer.ensures.high

pub returns-in-Some-clause-value : goal.returns-in-Some-clause-value
unfolding integer_or optional_integer
returns-in-Some-clause-value c =
    let least = c.ranges.low in
    let most = c.ranges.high in
    let is = simp to_z-of_z at c.integer.ensures.value in
    rw (← c.in-Some.ensures) (found_gives _ _ _ _ is)
