use Rattle.pbd_world.proofs.SessionSound.{session-sound, session-scene}
use Rattle.pbd_world.proofs.laws.sessions_stay_sound.Goals as goal

pub returns-clause-sound : goal.returns-clause-sound
returns-clause-sound c = session-sound

pub returns-clause-one_scene : goal.returns-clause-one_scene
returns-clause-one_scene c = session-scene
