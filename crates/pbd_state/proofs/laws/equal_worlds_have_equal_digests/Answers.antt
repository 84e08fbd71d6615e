use Rattle.std.proofs.Common.{ap}
use Rattle.sha2.specs.Sha256.{sha256}
use Rattle.pbd_world.specs.World.{World}
use Rattle.pbd_encoding.specs.Encoding.{state_bytes}
use Rattle.pbd_state.proofs.laws.equal_worlds_have_equal_digests.Goals as goal

pub returns : goal.returns
returns c = λ scene v w e. ap (λ (u : World). sha256 (state_bytes scene u)) e
