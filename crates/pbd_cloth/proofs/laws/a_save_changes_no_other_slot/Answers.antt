use Rattle.pbd_cloth.proofs.Slotting.{save_others}
use Rattle.pbd_cloth.proofs.laws.a_save_changes_no_other_slot.Goals as goal

pub returns-clause-slots : goal.returns-clause-slots
returns-clause-slots c = save_others
