use Rattle.pbd_laws.proofs.LeftOutside.{solid-out, last-out, none-out}
use Rattle.pbd_laws.proofs.shapes.shapes_leave_particles_outside.Goals as goal

pub returns : goal.returns
returns c = record { touched = solid-out; last = last-out; none = none-out }
