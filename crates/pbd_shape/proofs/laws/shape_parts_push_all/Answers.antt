use Rattle.std.proofs.Common.{refl}
use Rattle.pbd_shape.proofs.laws.shape_parts_push_all.Goals as goal

pub returns : goal.returns
returns c = λ w s. refl
