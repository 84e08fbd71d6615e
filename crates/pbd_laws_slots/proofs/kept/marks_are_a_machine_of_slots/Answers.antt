use Rattle.pbd_laws_slots.proofs.Viewing.{marks-play, marks-save, marks-restore, marks-rollback}
use Rattle.pbd_laws_slots.proofs.kept.marks_are_a_machine_of_slots.Goals as goal

pub returns : goal.returns
returns c = record { play = marks-play; save = marks-save; restore = marks-restore; rollback = marks-rollback }
