use Rattle.pbd_cloth.proofs.Slotting.{taken_back}
use Rattle.pbd_cloth.proofs.laws.what_was_played_since_a_save_is_taken_back.Goals as goal

pub returns : goal.returns
returns c = taken_back
