use Rattle.std.proofs.Common.{◌≡◌, take}
use Rattle.pbd_scene.specs.Scene.{named}
use Rattle.pbd_scene.proofs.naming.add_tracked.Given as goal

abbrev pub invariant-loop-track : goal.invariant-loop-track
invariant-loop-track l = l.names ≡ named l.fn.names (take l.track-index l.tracks)
