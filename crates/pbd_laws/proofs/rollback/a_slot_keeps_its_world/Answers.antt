use Rattle.pbd_laws.proofs.Slots.{back-again}
use Rattle.pbd_laws.proofs.rollback.a_slot_keeps_its_world.Goals as goal

pub returns : goal.returns
returns c = back-again
