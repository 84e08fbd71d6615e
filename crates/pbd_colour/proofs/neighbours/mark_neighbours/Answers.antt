use Rattle.std.proofs.Common.{◌≤◌, arith, length}
use Rattle.pbd_colour.proofs.Marking.{as_many_then}
use Rattle.pbd_colour.proofs.Meeting.{items_within}
use Rattle.pbd_colour.proofs.neighbours.mark_neighbours.Goals as goal

pub mark_later-requires : goal.mark_later-requires
mark_later-requires c = let l = (c.requires.held.in_range c.args.i c.requires.i).0 in
    record { chain = l; pairs = λ x. items_within c.requires.held _ c.requires.marks _ x l }

pub mark_later-requires-2 : goal.mark_later-requires-2
mark_later-requires-2 c = let l = (c.requires.held.in_range c.args.i c.requires.i).1 in
    let size : length c.args.held.pairs.now ≤ length c.mark_later.new.marks.entries =
    omega (arith, c.requires.marks, c.mark_later.ensures.sized.count) in
    record { chain = l; pairs = λ x. items_within c.requires.held (length c.mark_later.new.marks.entries) size _ x l }

pub returns-clause-sized : goal.returns-clause-sized
returns-clause-sized c = as_many_then c.mark_later.ensures.sized c.mark_later-2.ensures.sized
