use Rattle.std.proofs.Common.{◌∙◌, get_or}
use Rattle.pbd_colour.proofs.UsedLemmas.{lowest-unset}
use Rattle.pbd_colour.proofs.paint.least_unused.Goals as goal

pub returns-clause-least : goal.returns-clause-least
returns-clause-least c = c.trailing_ones.ensures ∙ (lowest-unset (get_or c.args.used.now c.args.p 0) (get_or c.args.used.now c.args.q 0)
    (c.requires.small c.args.p) (c.requires.small c.args.q)).0

pub returns-clause-within : goal.returns-clause-within
returns-clause-within c = rw c.trailing_ones.ensures (lowest-unset (get_or c.args.used.now c.args.p 0) (get_or c.args.used.now c.args.q 0)
    (c.requires.small c.args.p) (c.requires.small c.args.q)).1
