use Rattle.std.proofs.Common.{◌≡◌, ◌++◌, drop}
use Rattle.pbd_scene.specs.Naming.{holding}
use Rattle.pbd_scene.proofs.naming.holding.Given as goal

abbrev pub invariant-loop-i : goal.invariant-loop-i
invariant-loop-i l = l.held ++ holding l.names l.i (drop l.i l.particles) ≡ holding l.names 0 l.particles
