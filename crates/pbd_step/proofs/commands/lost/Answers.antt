use Rattle.std.proofs.Common.{◌^◌, arith}
use Rattle.pbd_step.proofs.commands.lost.Goals as goal

pub opposite-requires : goal.opposite-requires
opposite-requires c =
    let size = c.minus.ensures.size (2 ^ 29) (2 ^ 29) c.requires.at c.requires.before in
    record { x = omega (arith, size.x); y = omega (arith, size.y); z = omega (arith, size.z) }

pub returns-clause-size : goal.returns-clause-size
returns-clause-size c = c.opposite.ensures.size (2 ^ 30) (record {
  x = omega (arith, (c.minus.ensures.size (2 ^ 29) (2 ^ 29) c.requires.at c.requires.before).x);
  y = omega (arith, (c.minus.ensures.size (2 ^ 29) (2 ^ 29) c.requires.at c.requires.before).y);
  z = omega (arith, (c.minus.ensures.size (2 ^ 29) (2 ^ 29) c.requires.at c.requires.before).z);
})
