use Rattle.std.proofs.Common.{ℕ, length, sym, subst}
use Rattle.pbd_schedule.specs.Legal.{StopsAt}
use Rattle.pbd_schedule.proofs.Legality.{stops_misplaced, stops_short}
use Rattle.pbd_schedule.proofs.check.stops_at.Goals as goal

pub returns-in-Some-clause-outcome : goal.returns-in-Some-clause-outcome
returns-in-Some-clause-outcome c = stops_misplaced (length c.args.stages.now) c.args.events.now c.in-Some.at c.in-Some.ensures.misplaced

pub returns-else-all_done-clause-outcome : goal.returns-else-all_done-clause-outcome
returns-else-all_done-clause-outcome c =
    subst (λ (m : ℕ). StopsAt m c.args.events.now (length c.args.events.now)) c.first_misplaced.ensures.size
    (stops_short c.first_misplaced.new.stages c.args.events.now c.in_default.ensures.all (sym c.if-all_done.ensures))
