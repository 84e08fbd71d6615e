use Rattle.std.proofs.Common.{◌≡◌, ℕ, ◌<◌, pos, length, get_or, cond, false}
use Rattle.pbd_lanes.proofs.Lanes.select.Given as goal

abbrev pub invariant-loop-j : goal.invariant-loop-j
invariant-loop-j g l = record {
  whole : length l.values ≡ g.row.L;
  below : (k : ℕ) → k < l.j
      → get_or l.values k (pos 0) ≡ cond (get_or l.mask-inside.set k false) (get_or l.yes-inside.values k (pos 0))
      (get_or l.no-inside.values k (pos 0));
}
