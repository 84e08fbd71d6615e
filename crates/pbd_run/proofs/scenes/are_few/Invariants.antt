use Rattle.std.proofs.Common.{◌≡◌, ◌+◌, length}
use Rattle.pbd_outcome.specs.Split.{scenes}
use Rattle.pbd_run.proofs.scenes.are_few.Given as goal

-- so many scenes stand before the rest
abbrev pub invariant-loop : goal.invariant-loop
invariant-loop l = l.counter + length (scenes l.rest) ≡ length (scenes l.text)
