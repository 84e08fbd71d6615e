use Rattle.std.proofs.Common.{refl}
use Rattle.std.proofs.lemmas.Result.{err_from_is_err_and}
use Rattle.pbd_scene.proofs.Flagged.{tracks_begin, tracks_more, tracks_stop, tracks_end}
use Rattle.pbd_scene.proofs.naming.place_tracks.Goals as goal

pub returns-in_err-track : goal.returns-in_err-track
returns-in_err-track c =
    let fails = rw c.as_slice.ensures at c.in_err-track.ensures.track in
    let p = err_from_is_err_and c.from_residual-in_err-track.result c.from_residual-in_err-track.ensures.1 in
    rw (p.1, p.2) (tracks_stop c.args.count c.args.entries.now c.loop-entry.entry-index c.entry-item.result c.loop-entry.tracks
    c.loop-entry.tracked.items c.in_err-track.field-0.0 c.loop-entry-test.true c.entry-item.is c.loop-entry.invariant fails)

pub loop-entry-init : goal.loop-entry-init
loop-entry-init c = rw c.new-tracks.ensures (tracks_begin c.args.count c.args.entries.now c.in_ok-tracked.tracked.items
    c.in_ok-tracked.ensures)

pub loop-entry-preserved : goal.loop-entry-preserved
loop-entry-preserved c =
    let is = rw c.as_slice.ensures at c.in_ok-track.ensures.track in
    tracks_more c.args.count c.args.entries.now c.loop-entry.entry-index c.entry-item.result c.loop-entry.tracks c.push.new.self
    c.loop-entry.tracked.items _ c.in_ok-track.track c.loop-entry-test.true c.entry-item.is c.loop-entry.invariant is refl
    c.in_ok-push.ensures.ok

pub returns : goal.returns
returns c = tracks_end c.args.count c.args.entries.now c.loop-entry.entry-index c.loop-entry.tracks c.loop-entry.tracked.items
    c.loop-entry-test.false c.loop-entry.invariant
