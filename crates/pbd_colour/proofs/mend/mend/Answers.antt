use Rattle.std.proofs.Common.{◌∙◌}
use Rattle.pbd_colour.proofs.Marking.{as_many_then}
use Rattle.pbd_colour.proofs.Meeting.{IsSwept-begun}
use Rattle.pbd_colour.proofs.mend.mend.Goals as goal

pub sweep-requires : goal.sweep-requires
sweep-requires c =
    let h = c.requires.held in
    let was = c.requires.before in
    record {
      held = h;
      colours = c.requires.colours;
      marks = c.mark_all.ensures.sized.count ∙ c.requires.marks;
      swept = IsSwept-begun was.was c.args.numbers.now was.dropped_from was.painted h c.mark_all.ensures.marked;
    }

pub returns-clause-sized : goal.returns-clause-sized
returns-clause-sized c = as_many_then c.mark_all.ensures.sized c.sweep.ensures.sized
