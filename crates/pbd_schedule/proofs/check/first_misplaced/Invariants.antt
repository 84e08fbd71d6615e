use Rattle.std.proofs.Common.{◌≡◌, length, take}
use Rattle.pbd_schedule.specs.Stages.{HaveCome}
use Rattle.pbd_schedule.proofs.check.first_misplaced.Given as goal

abbrev pub invariant-loop-i : goal.invariant-loop-i
invariant-loop-i l = HaveCome l.stages (take l.i l.events) × (length l.stages ≡ length l.initial.stages)
