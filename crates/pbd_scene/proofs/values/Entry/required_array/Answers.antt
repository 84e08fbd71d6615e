use Rattle.std.proofs.Common.{refl}
use Rattle.pbd_scene.specs.Values.{required_array}
use Rattle.pbd_scene.proofs.values.Entry.required_array.Goals as goal

pub returns-in-Some-array_of : goal.returns-in-Some-array_of
unfolding required_array
returns-in-Some-array_of c = rw (← c.in-Some.ensures, ← c.in-Some-array_of.ensures) refl
