use Rattle.std.proofs.lemmas.Int.{to_z-of_z}
use Rattle.pbd_shape.proofs.plane.is_behind.Goals as goal

pub returns : goal.returns
returns c =
    let lack = c.ranges.lack in
    simp to_z-of_z
