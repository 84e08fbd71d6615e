use Rattle.std.proofs.lemmas.Int.{to_z-of_z}
use Rattle.pbd_scene.specs.Values.{optional_integer}
use Rattle.pbd_scene.proofs.Reading.{stops}
use Rattle.pbd_scene.proofs.values.Entry.optional_integer.Goals as goal

pub returns-in_err-integer-in-Some : goal.returns-in_err-integer-in-Some
unfolding optional_integer
returns-in_err-integer-in-Some c =
    let low = c.ranges.low in
    let high = c.ranges.high in
    let fails = simp to_z-of_z at c.in_err-integer-in-Some.ensures.value in
    rw (← c.in-Some.ensures) (stops _ _ _ _ _ c.from_residual.ensures.1 fails)
