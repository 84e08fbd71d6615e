use Rattle.pbd_laws_slots.proofs.Viewing.{cloth-plays, cloth-saves, cloth-restores, cloth-rollback}
use Rattle.pbd_laws_slots.proofs.kept.cloths_are_a_machine_of_slots.Goals as goal

pub returns : goal.returns
returns c = record { play = cloth-plays; save = cloth-saves; restore = cloth-restores; rollback = cloth-rollback }
