use Rattle.std.proofs.Common.{◌≡◌, replicate}
use Rattle.pbd_chain.proofs.targets.Targets.open.Given as goal

abbrev pub invariant-loop : goal.invariant-loop
invariant-loop l = l.codes.items ≡ replicate l.counter 0
