use Rattle.pbd_store.proofs.Limits.{valid_inside}
use Rattle.pbd_store.proofs.laws.valid_particles_are_inside.Goals as goal

pub returns : goal.returns
returns c = valid_inside
