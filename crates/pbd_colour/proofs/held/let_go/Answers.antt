use Rattle.std.proofs.Common.{◌<◌, false, length, arith}
use Rattle.pbd_colour.proofs.Holding.{first_linked, second_linked, Holds-less, set_same}
use Rattle.pbd_colour.proofs.held.let_go.Goals as goal

pub returns-then-not-live-i-clause-live : goal.returns-then-not-live-i-clause-live
returns-then-not-live-i-clause-live c = set_same c.args.live.now c.args.i false c.if-not-live-i.true

pub unlink-requires : goal.unlink-requires
unlink-requires c = let l = c.requires.pairs c.args.i c.requires.i in
    first_linked c.args.i c.args.live.now c.requires.held c.if-not-live-i.false l.0 l.1

pub unlink-requires-2 : goal.unlink-requires-2
unlink-requires-2 c = let l = c.requires.pairs c.args.i c.requires.i in
    second_linked c.args.i c.args.live.now c.requires.held c.if-not-live-i.false l.0 l.1 c.unlink.new.self c.unlink.ensures

pub returns-clause-held : goal.returns-clause-held
returns-clause-held c = let l = c.requires.pairs c.args.i c.requires.i in
    let within : c.args.i < length c.args.live.now = omega (arith, c.requires.i, c.requires.length) in
    Holds-less c.args.i c.args.live.now c.requires.held c.if-not-live-i.false l.0 l.1 c.unlink.new.self c.unlink-2.new.self within
    c.unlink.ensures c.unlink-2.ensures
