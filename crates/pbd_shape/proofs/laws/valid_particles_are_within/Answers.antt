use Rattle.pbd_shape.proofs.Ways.{valid_within}
use Rattle.pbd_shape.proofs.laws.valid_particles_are_within.Goals as goal

pub returns : goal.returns
returns c = valid_within
