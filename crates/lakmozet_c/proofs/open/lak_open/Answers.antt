use Rattle.std.proofs.Common.{refl}
use Rattle.lakmozet_c.proofs.open.lak_open.Goals as goal

-- an open handle stays as it is
pub returns-in-Some-clause-opened : goal.returns-in-Some-clause-opened
returns-in-Some-clause-opened c = rw c.in-Some.ensures.held (refl, c.put.ensures, refl)
