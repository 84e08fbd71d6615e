use Rattle.std.proofs.Common.{◌^◌}
use Rattle.pbd_num.proofs.distance.Goals as goal

pub length-requires : goal.length-requires
length-requires c = c.minus.ensures.size (2 ^ 29) (2 ^ 29) c.requires.a c.requires.b
