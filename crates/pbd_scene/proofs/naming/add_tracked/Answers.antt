use Rattle.pbd_scene.proofs.Flagged.{named_more}
use Rattle.pbd_scene.proofs.naming.add_tracked.Goals as goal

pub loop-track-preserved : goal.loop-track-preserved
loop-track-preserved c = named_more c.args.names.now c.args.tracks.now c.loop-track.track-index c.track-item.result c.loop-track.names
    c.push.new.self c.loop-track-test.true c.track-item.is c.loop-track.invariant c.in_ok-push.ensures.ok
