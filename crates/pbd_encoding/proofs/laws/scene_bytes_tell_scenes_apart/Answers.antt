use Rattle.pbd_encoding.proofs.Fixed.{scenes_differ, one_text}
use Rattle.pbd_encoding.proofs.laws.scene_bytes_tell_scenes_apart.Goals as goal

pub returns-clause-apart : goal.returns-clause-apart
returns-clause-apart c = scenes_differ

pub returns-clause-same : goal.returns-clause-same
returns-clause-same c = one_text
