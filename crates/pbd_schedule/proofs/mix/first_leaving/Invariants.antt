use Rattle.std.proofs.Common.{◌≡◌, drop}
use Rattle.pbd_schedule.specs.Mixed.{first_leaving}
use Rattle.pbd_schedule.proofs.mix.first_leaving.Given as goal

abbrev pub invariant-loop-k : goal.invariant-loop-k
invariant-loop-k l = first_leaving (drop l.k l.batch) (drop l.k l.notes) ≡ first_leaving l.batch l.notes
