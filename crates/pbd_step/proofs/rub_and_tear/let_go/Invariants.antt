use Rattle.std.proofs.Common.{take}
use Rattle.pbd_step.specs.Settling.{LetGo}
use Rattle.pbd_step.proofs.rub_and_tear.let_go.Given as goal

-- the links of the numbers so far are gone
abbrev pub invariant-loop-n : goal.invariant-loop-n
invariant-loop-n l = record {
  so_far : LetGo (take l.n-index l.numbers) l.initial.links.items l.links.items;
}
