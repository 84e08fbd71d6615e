use Rattle.std.proofs.Common.{◌≡◌, ℕ, ◌<◌, false, get_or}
use Rattle.pbd_world.specs.Bonds.{link_at}
use Rattle.pbd_step.proofs.again.are_live_by.Given as goal

abbrev pub invariant-loop-i : goal.invariant-loop-i
invariant-loop-i l = (k : ℕ) → k < l.i → get_or l.flags k false ≡ (link_at l.links k).live
