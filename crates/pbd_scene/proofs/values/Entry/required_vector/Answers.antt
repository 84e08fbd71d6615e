use Rattle.std.proofs.Common.{refl}
use Rattle.std.proofs.lemmas.Int.{to_z-of_z}
use Rattle.pbd_scene.specs.Values.{required_vector}
use Rattle.pbd_scene.proofs.Bounds.{limit_fits}
use Rattle.pbd_scene.proofs.values.Entry.required_vector.Goals as goal

pub returns-in-None : goal.returns-in-None
unfolding required_vector
returns-in-None c = record { value = rw (c.broken.ensures, ← c.in-None.ensures) refl; within = rw c.broken.ensures tt }

pub returns-in-Some : goal.returns-in-Some
unfolding required_vector
returns-in-Some c =
    let wide = limit_fits c.args.limit.now.units c.args.limit.now.high in
    let is = simp to_z-of_z at c.vector.ensures.value in
    record { value = rw (← c.in-Some.ensures) is; within = c.vector.ensures.within }
