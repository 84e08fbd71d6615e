use Rattle.std.proofs.Common.{length}
use Rattle.pbd_outcome.specs.Generated.{words_of}
use Rattle.pbd_run.proofs.GeneratedLaws.{SetOff}
use Rattle.pbd_run.proofs.generated.all_set_off.Given as goal

-- the particles so far, and those that are left, are all of them
abbrev pub invariant-each : goal.invariant-each
invariant-each l = SetOff l.fn.size (words_of l.fn.number) l.fn.particles l.list l.n l.words l.rest

abbrev pub decreases-each : goal.decreases-each
decreases-each l = length l.rest
