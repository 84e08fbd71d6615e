use Rattle.std.proofs.Common.{refl}
use Rattle.lakmozet_c.proofs.replaying.replay_number.Goals as goal

pub returns-in-Mismatch : goal.returns-in-Mismatch
returns-in-Mismatch c = rw c.in-Mismatch.is refl
