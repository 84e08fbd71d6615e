use Rattle.std.proofs.Common.{◌+◌}
use Rattle.pbd_colour.specs.Held.{before}
use Rattle.pbd_colour.proofs.Holding.{first_free, second_free, Holds-more, not_below, below_next, below_other}
use Rattle.pbd_colour.proofs.held.hold_all.Goals as goal

pub link_front-requires-clause-free : goal.link_front-requires-clause-free
link_front-requires-clause-free c = first_free c.loop-i.i c.loop-i.invariant (not_below c.loop-i.i)

pub link_front-requires-in-loop-i-clause-free : goal.link_front-requires-in-loop-i-clause-free
link_front-requires-in-loop-i-clause-free c = second_free c.loop-i.i c.loop-i.invariant (not_below c.loop-i.i) c.link_front.new.self
    (c.requires.pairs c.loop-i.i c.loop-i-test.true).0 c.link_front.ensures

pub loop-i-preserved : goal.loop-i-preserved
loop-i-preserved c = let l = c.requires.pairs c.loop-i.i c.loop-i-test.true in
    let i = c.loop-i.i in
    Holds-more i c.loop-i.invariant (not_below i) (before (i + 1)) (below_next i) (λ k ne. below_other k i ne) c.link_front.new.self
    c.link_front-in-loop-i.new.self l.0 l.1 c.link_front.ensures c.link_front-in-loop-i.ensures
