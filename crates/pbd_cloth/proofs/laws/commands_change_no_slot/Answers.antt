use Rattle.pbd_cloth.proofs.Slotting.{played_slots}
use Rattle.pbd_cloth.proofs.laws.commands_change_no_slot.Goals as goal

pub returns : goal.returns
returns c = played_slots
