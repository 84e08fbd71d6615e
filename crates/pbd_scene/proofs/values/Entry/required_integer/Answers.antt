use Rattle.std.proofs.Common.{refl}
use Rattle.std.proofs.lemmas.Int.{to_z-of_z}
use Rattle.pbd_scene.specs.Values.{required_integer}
use Rattle.pbd_scene.proofs.values.Entry.required_integer.Goals as goal

pub returns-in-None : goal.returns-in-None
unfolding required_integer
returns-in-None c =
    record {
      value = rw (c.broken.ensures, ← c.in-None.ensures) refl;
      low = rw c.broken.ensures tt;
      high = rw c.broken.ensures tt;
    }

pub returns-in-Some : goal.returns-in-Some
unfolding required_integer
returns-in-Some c =
    let least = c.ranges.low in
    let most = c.ranges.high in
    let is = simp to_z-of_z at c.integer.ensures.value in
    record {
      value = rw (← c.in-Some.ensures) is;
      low = simp to_z-of_z at c.integer.ensures.low;
      high = simp to_z-of_z at c.integer.ensures.high;
    }
