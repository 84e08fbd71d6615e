use Rattle.std.proofs.Common.{◌≡◌, [], drop}
use Rattle.pbd_scene.specs.Checks.{each}
use Rattle.pbd_scene.specs.Naming.{pinned}
use Rattle.pbd_scene.proofs.naming.pinned_particles.Given as goal

-- what is read of all, with what was read so far
abbrev pub invariant-loop-n : goal.invariant-loop-n
invariant-loop-n l = each (pinned l.count) l.held (drop l.n-index l.pins) ≡ each (pinned l.count) [] l.pins
