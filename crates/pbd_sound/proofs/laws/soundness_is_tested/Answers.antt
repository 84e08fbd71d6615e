use Rattle.pbd_sound.proofs.Sounding.{tested_sound, sound_tested}
use Rattle.pbd_sound.proofs.laws.soundness_is_tested.Goals as goal

pub returns : goal.returns
returns c = record { sound = tested_sound; tested = sound_tested }
