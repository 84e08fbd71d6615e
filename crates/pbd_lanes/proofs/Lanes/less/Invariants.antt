use Rattle.std.proofs.Common.{◌≡◌, ℕ, ◌<◌, pos, length, get_or, false, int_lt}
use Rattle.pbd_lanes.proofs.Lanes.less.Given as goal

abbrev pub invariant-loop-j : goal.invariant-loop-j
invariant-loop-j g l = record {
  whole : length l.set ≡ g.row.L;
  below : (k : ℕ) → k < l.j → get_or l.set k false ≡ int_lt (get_or l.self-inside.values k (pos 0))
      (get_or l.other-inside.values k (pos 0));
}
