use Rattle.pbd_world.proofs.CommandSound.{command-sound, command-scene}
use Rattle.pbd_world.proofs.laws.commands_keep_worlds_sound.Goals as goal

pub returns-clause-sound : goal.returns-clause-sound
returns-clause-sound c = command-sound

pub returns-clause-one_scene : goal.returns-clause-one_scene
returns-clause-one_scene c = command-scene
