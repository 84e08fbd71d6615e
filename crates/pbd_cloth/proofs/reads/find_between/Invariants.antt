use Rattle.std.proofs.Common.{◌≡◌, ℕ, ◌<◌, false}
use Rattle.pbd_world.specs.Bonds.{link_at}
use Rattle.pbd_cloth.specs.Reading.{joins_ends}
use Rattle.pbd_cloth.proofs.reads.find_between.Given as goal

-- none of the first i joins them
abbrev pub invariant-loop-i : goal.invariant-loop-i
invariant-loop-i l = (k : ℕ) → k < l.i → joins_ends l.a l.b (link_at l.links k) ≡ false
