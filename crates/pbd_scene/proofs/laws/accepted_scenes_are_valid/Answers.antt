use Rattle.pbd_scene.proofs.Validity.{scene_valid}
use Rattle.pbd_scene.proofs.laws.accepted_scenes_are_valid.Goals as goal

pub returns : goal.returns
returns c = scene_valid
