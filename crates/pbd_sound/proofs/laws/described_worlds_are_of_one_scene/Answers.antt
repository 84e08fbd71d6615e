use Rattle.pbd_sound.proofs.Telling.{told_scene}
use Rattle.pbd_sound.proofs.laws.described_worlds_are_of_one_scene.Goals as goal

pub returns : goal.returns
returns c = told_scene
