use Rattle.std.proofs.Common.{sym, ◌∙◌}
use Rattle.pbd_schedule.proofs.draw.go_on.Goals as goal
use Rattle.pbd_schedule.proofs.DrawingOn.{goes_on, goes_out}

pub returns-in-Some-clause-coming : goal.returns-in-Some-clause-coming
returns-in-Some-clause-coming c = goes_on c.args.coming.now c.args.left c.args.i c.requires.left c.requires.within c.in-Some.event
    (sym c.following.ensures ∙ c.in-Some.is)

pub returns-in-None-clause-coming : goal.returns-in-None-clause-coming
returns-in-None-clause-coming c = goes_out c.args.coming.now c.args.left c.args.i c.requires.left c.requires.within
    (sym c.following.ensures ∙ c.in-None.is)
