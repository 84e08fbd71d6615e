use Rattle.std.proofs.Common.{◌∙◌}
use Rattle.pbd_store.proofs.Axes.{flown_is, flown_held}
use Rattle.pbd_store.proofs.flight.flown_by.Goals as goal

pub returns : goal.returns
returns c = λ flies damping gravity before w l p.
    flown_held c.args.at c.args.way c.args.loss c.args.pull c.requires.at c.requires.way c.requires.loss c.requires.pull
    ∙ flown_is flies damping gravity c.args.at before c.args.way c.args.loss c.args.pull w l p
