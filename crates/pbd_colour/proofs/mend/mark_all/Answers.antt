use Rattle.std.proofs.Common.{arith}
use Rattle.pbd_colour.proofs.Marking.{as_many}
use Rattle.pbd_colour.proofs.mend.mark_all.Goals as goal

pub loop-i-init : goal.loop-i-init
loop-i-init c = record { marked = λ m k l e. absurd (omega (arith, l)); sized = as_many }
