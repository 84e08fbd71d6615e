use Rattle.std.proofs.Common.{◌^◌}
use Rattle.std.proofs.lemmas.Int.{to_z-of_z}
use Rattle.pbd_shape.proofs.Steps.{part_size}
use Rattle.pbd_shape.proofs.rubbing.lost_if.Goals as goal

pub returns-clause-size : goal.returns-clause-size
returns-clause-size c =
    let friction = c.ranges.friction in
    let size = simp to_z-of_z at c.scaled.ensures.size in
    size (2 ^ 30) (part_size c.args.friction c.requires.friction) c.requires.velocity
