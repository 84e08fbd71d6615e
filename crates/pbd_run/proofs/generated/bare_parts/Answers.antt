use Rattle.std.proofs.Common.{refl}
use Rattle.pbd_run.proofs.generated.bare_parts.Goals as goal

pub returns : goal.returns
returns c = rw (c.empty.ensures, c.in_ok-spheres.ensures) refl
