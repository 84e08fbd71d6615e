use Rattle.std.proofs.Common.{◌≡◌, true, ◌==◌, take}
use Rattle.std.specs.List.{list_all}
use Rattle.pbd_schedule.proofs.check.all_done.Given as goal

abbrev pub invariant-loop-stage : goal.invariant-loop-stage
invariant-loop-stage l = list_all (λ s. s == 3) (take l.stage-index l.stages) ≡ true
