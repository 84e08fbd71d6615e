use Rattle.std.proofs.Common.{arith}
use Rattle.pbd_colour.proofs.Marking.{AreBlocked-more}
use Rattle.pbd_colour.proofs.marks.mark_both.Goals as goal

pub bounds-blocks-block : goal.bounds-blocks-block
bounds-blocks-block c = omega (arith, c.requires.k, c.requires.blocked.count)

pub returns-clause-blocked : goal.returns-clause-blocked
returns-clause-blocked c = rw (c.either.ensures, c.either-2.ensures)
    (AreBlocked-more c.requires.blocked c.args.k c.args.is_met c.requires.k)
