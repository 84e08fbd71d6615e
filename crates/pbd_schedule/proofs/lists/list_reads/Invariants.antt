use Rattle.std.proofs.Common.{◌≡◌}
use Rattle.pbd_schedule.specs.Drawn.{first_events}
use Rattle.pbd_schedule.proofs.lists.list_reads.Given as goal

abbrev pub invariant-loop-k : goal.invariant-loop-k
invariant-loop-k l = (l.list.room ≡ l.initial.list.room) × (l.list.entries ≡ first_events l.k)
