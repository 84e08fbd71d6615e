use Rattle.std.proofs.Common.{sym, ◌∙◌}
use Rattle.pbd_world.proofs.ApartLemmas.{read_next, alone_all, read_stops}
use Rattle.pbd_world.proofs.joined.stand_alone.Goals as goal

pub returns-then-not-has_room : goal.returns-then-not-has_room
returns-then-not-has_room c =
    let room = sym c.has_room.ensures ∙ c.if-not-has_room.true in
    sym (read_stops c.args.count c.args.links.now c.loop-link.link-index _ c.loop-link.lists c.requires c.loop-link-test.true
    c.loop-link.invariant room)

pub loop-link-preserved : goal.loop-link-preserved
loop-link-preserved c =
    let room = sym c.has_room.ensures ∙ c.if-not-has_room.false in
    read_next c.args.count c.args.links.now c.loop-link.link-index _ c.loop-link.lists _ c.requires c.loop-link-test.true
    c.loop-link.invariant room c.in_ok-add.ensures

pub returns : goal.returns
returns c = sym (alone_all c.args.count c.args.links.now c.loop-link.link-index c.loop-link.lists c.loop-link-test.false
    c.loop-link.invariant)
