use Rattle.std.proofs.Common.{sym, ◌∙◌}
use Rattle.std.specs.Cmp.{booleans_Decides}
use Rattle.std.specs.Cmp.Lexicographic.{pointwise_decides}
use Rattle.pbd_colour.proofs.held.are_same.Goals as goal

pub returns : goal.returns
returns c = rw c.eq.ensures (pointwise_decides booleans_Decides c.args.flags.now c.args.others.now)
