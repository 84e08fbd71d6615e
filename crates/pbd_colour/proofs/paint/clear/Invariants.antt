use Rattle.std.proofs.Common.{◌≡◌, ℕ, ◌<◌, get_or}
use Rattle.pbd_colour.proofs.paint.clear.Given as goal

abbrev pub invariant-loop-set : goal.invariant-loop-set
invariant-loop-set l = (p : ℕ) → p < l.set-index → get_or l.used p 0 ≡ 0
