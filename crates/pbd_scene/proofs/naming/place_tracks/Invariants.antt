use Rattle.pbd_scene.proofs.Flagged.{TracksSoFar}
use Rattle.pbd_scene.proofs.naming.place_tracks.Given as goal

abbrev pub invariant-loop-entry : goal.invariant-loop-entry
invariant-loop-entry l = TracksSoFar l.count l.entries l.entry-index l.tracks l.tracked.items
