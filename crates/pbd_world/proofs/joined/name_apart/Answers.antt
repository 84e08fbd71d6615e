use Rattle.std.proofs.Common.{sym}
use Rattle.pbd_world.proofs.TrackedLemmas.{tracked_begins, tracked_all, read_tracked, read_named}
use Rattle.pbd_world.proofs.joined.name_apart.Goals as goal

pub returns-then-index : goal.returns-then-index
returns-then-index c = sym (read_named c.args.count c.args.tracks.now c.loop-track.track-index c.track-item.result c.loop-track.flags.items
    c.index.result.now c.requires c.loop-track-test.true c.track-item.is c.loop-track.invariant c.index.ensures c.if-index.true)

pub loop-track-preserved : goal.loop-track-preserved
loop-track-preserved c = read_tracked c.args.count c.args.tracks.now c.loop-track.track-index c.track-item.result c.loop-track.flags.items
    c.index.result.now c.requires c.loop-track-test.true c.track-item.is c.loop-track.invariant c.index.ensures c.if-index.false

pub loop-track-init : goal.loop-track-init
loop-track-init c = tracked_begins c.args.count c.args.tracks.now c.in_ok-flags.flags.items c.in_ok-flags.ensures

pub returns : goal.returns
returns c = sym (tracked_all c.args.count c.args.tracks.now c.loop-track.track-index c.loop-track.flags.items c.loop-track-test.false
    c.loop-track.invariant)
