use Rattle.std.proofs.Common.{◌≡◌, ℕ, ◌<◌, length, get_or, false, ◌&&◌}
use Rattle.pbd_lanes.proofs.Mask.and.Given as goal

abbrev pub invariant-loop-j : goal.invariant-loop-j
invariant-loop-j g l = record {
  whole : length l.set ≡ g.row.L;
  below : (k : ℕ) → k < l.j
      → get_or l.set k false ≡ (get_or l.self-inside.set k false && get_or l.other-inside.set k false);
}
