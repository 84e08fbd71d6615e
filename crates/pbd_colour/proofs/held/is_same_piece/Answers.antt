use Rattle.std.proofs.Common.{◌+◌}
use Rattle.pbd_colour.proofs.Holding.{same_in_piece}
use Rattle.pbd_colour.proofs.held.is_same_piece.Goals as goal

pub returns : goal.returns
returns c = λ same k from to. same_in_piece c.args.flags.now c.args.others.now c.args.at (c.args.at + 64) k (c.are_same.ensures.0 same) from to
