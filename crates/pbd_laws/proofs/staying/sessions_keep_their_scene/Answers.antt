use Rattle.pbd_laws.proofs.SceneStays.{session-keeps}
use Rattle.pbd_laws.proofs.staying.sessions_keep_their_scene.Goals as goal

pub returns : goal.returns
returns c = session-keeps
