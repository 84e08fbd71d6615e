use Rattle.pbd_laws.proofs.HeldStay.{steps-stand, held-stays}
use Rattle.pbd_laws.proofs.staying.held_particles_keep_their_places.Goals as goal

pub returns-clause-steps : goal.returns-clause-steps
returns-clause-steps c = steps-stand

pub returns-clause-session : goal.returns-clause-session
returns-clause-session c w i cs held alone all = (held-stays w i cs held alone all).place

pub returns-clause-held : goal.returns-clause-held
returns-clause-held c w i cs held alone all = (held-stays w i cs held alone all).held
