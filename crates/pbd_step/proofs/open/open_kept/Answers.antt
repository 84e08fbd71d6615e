use Rattle.pbd_step.proofs.Keeping.{valid_fit}
use Rattle.pbd_step.proofs.open.open_kept.Goals as goal

pub open_setting-requires : goal.open_setting-requires
open_setting-requires g c = (valid_fit c.args.parts.now c.requires.valid).particles
