use Rattle.std.proofs.Common.{◌≡◌, ◌++◌, take, map}
use Rattle.pbd_num.specs.declared.Vec3.{Vec3}
use Rattle.pbd_world.specs.declared.parts.Particle.{Particle}
use Rattle.pbd_obj.specs.MeshLinks.{at_rest}
use Rattle.pbd_obj.proofs.links.push_particles.Given as goal

abbrev pub invariant-loop-place : goal.invariant-loop-place
invariant-loop-place l = l.particles ≡ l.fn.particles ++ map {A = Vec3} {B = Particle} (at_rest l.weight) (take l.place-index l.places)
