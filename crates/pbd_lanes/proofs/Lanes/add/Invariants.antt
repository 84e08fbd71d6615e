use Rattle.std.proofs.Common.{◌≡◌, ℕ, ◌<◌, pos, ◌+ℤ◌, length, get_or}
use Rattle.pbd_lanes.proofs.Lanes.add.Given as goal

abbrev pub invariant-loop-j : goal.invariant-loop-j
invariant-loop-j g l = record {
  whole : length l.values ≡ g.row.L;
  below : (k : ℕ) → k < l.j → get_or l.values k (pos 0) ≡ get_or l.self-inside.values k (pos 0) +ℤ get_or l.other-inside.values k (pos 0);
}
