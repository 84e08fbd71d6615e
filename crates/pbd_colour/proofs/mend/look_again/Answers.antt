use Rattle.std.proofs.Common.{◌∙◌, ◌<◌, sym, arith, length}
use Rattle.pbd_colour.proofs.Sweeping.{IsSwept-more_dead}
use Rattle.pbd_colour.proofs.Marking.{as_many, meets_later}
use Rattle.pbd_colour.proofs.Meeting.{IsSwept-again, IsSwept-kept}
use Rattle.pbd_colour.proofs.mend.look_again.Goals as goal

pub returns-then-not-is_live-clause-swept : goal.returns-then-not-is_live-clause-swept
returns-then-not-is_live-clause-swept c =
    IsSwept-more_dead c.args.held.pairs.now c.args.held.live.now c.requires.swept c.if-not-is_live.true

pub returns-then-colour-colours-clause-swept : goal.returns-then-colour-colours-clause-swept
returns-then-colour-colours-clause-swept c = let h = c.requires.held in
    IsSwept-kept c.args.held.live.now h.held h.flags h.in_range c.args.colours.now c.args.marks.now.entries c.args.i c.requires.swept c.requires.i
    (sym c.if-colour-colours.true ∙ c.free_colour-colour.ensures)

pub returns-clause-swept : goal.returns-clause-swept
returns-clause-swept c =
    let h = c.requires.held in
    let l : c.args.i < length c.args.colours.now = omega (arith, c.requires.i, c.requires.colours) in
    IsSwept-again c.args.held.live.now h.held h.flags h.in_range c.args.colours.now c.args.marks.now.entries
    c.mark_neighbours.new.marks.entries c.args.i c.free_colour-colour.result c.requires.swept c.requires.i l
    c.free_colour-colour.ensures c.mark_neighbours.ensures.marked

pub returns-clause-before : goal.returns-clause-before
returns-clause-before c = meets_later c.args.held.pairs.now c.args.held.chains.now.chains c.args.i c.args.marks.now.entries
    c.mark_neighbours.new.marks.entries c.mark_neighbours.ensures.marked

pub returns-then-not-is_live-clause-sized : goal.returns-then-not-is_live-clause-sized
returns-then-not-is_live-clause-sized c = as_many

pub returns-then-colour-colours-clause-sized : goal.returns-then-colour-colours-clause-sized
returns-then-colour-colours-clause-sized c = as_many
