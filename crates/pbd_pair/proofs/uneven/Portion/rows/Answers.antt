use Rattle.pbd_pair.proofs.Sharing.{rows_shared}
use Rattle.pbd_pair.proofs.uneven.Portion.rows.Goals as goal

pub returns-clause-first : goal.returns-clause-first
returns-clause-first c = rows_shared c.args.correction c.requires.portion.some c.requires.correction c.shares-x.ensures.first_size
    c.shares-y.ensures.first_size c.shares-z.ensures.first_size c.shares-x.ensures.first c.shares-y.ensures.first c.shares-z.ensures.first

pub returns-clause-second : goal.returns-clause-second
returns-clause-second c = rows_shared c.args.correction c.requires.portion.some c.requires.correction c.shares-x.ensures.second_size
    c.shares-y.ensures.second_size c.shares-z.ensures.second_size c.shares-x.ensures.second c.shares-y.ensures.second
    c.shares-z.ensures.second
