use Rattle.std.proofs.Common.{◌<◌, length, true, arith}
use Rattle.std.specs.Prelude.{slice_set}
use Rattle.pbd_world.specs.Colours.{live_at}
use Rattle.pbd_colour.proofs.Holding.{first_free, second_free, Holds-more, set_same, set_in, set_others}
use Rattle.pbd_colour.proofs.held.hold.Goals as goal

pub returns-then-live-i-clause-live : goal.returns-then-live-i-clause-live
returns-then-live-i-clause-live c = set_same c.args.live.now c.args.i true c.if-live-i.true

pub link_front-requires-clause-free : goal.link_front-requires-clause-free
link_front-requires-clause-free c = first_free c.args.i c.requires.held c.if-live-i.false

pub link_front-requires-2-clause-free : goal.link_front-requires-2-clause-free
link_front-requires-2-clause-free c = second_free c.args.i c.requires.held c.if-live-i.false c.link_front.new.self
    (c.requires.pairs c.args.i c.requires.i).0 c.link_front.ensures

pub returns-clause-held : goal.returns-clause-held
returns-clause-held c =
    let l = c.requires.pairs c.args.i c.requires.i in
    let within : c.args.i < length c.args.live.now = omega (arith, c.requires.i, c.requires.length) in
    Holds-more c.args.i c.requires.held c.if-live-i.false (live_at (slice_set c.args.live.now c.args.i true))
    (set_in c.args.live.now c.args.i within) (set_others c.args.live.now c.args.i) c.link_front.new.self c.link_front-2.new.self
    l.0 l.1 c.link_front.ensures c.link_front-2.ensures
