use Rattle.std.proofs.Common.{◌≡◌, ℕ, ◌<◌, true, get_or}
use Rattle.pbd_world.specs.Colours.{live_at}
use Rattle.pbd_colour.specs.Marked.{AreAsMany}
use Rattle.pbd_colour.specs.Mended.{meets}
use Rattle.pbd_colour.proofs.mend.mark_all.Given as goal

abbrev pub invariant-loop-i : goal.invariant-loop-i
invariant-loop-i l = record {
  marked : (m k : ℕ) → m < l.i-index → meets l.held.pairs.now l.held.chains.now.chains (get_or l.numbers m 0) k ≡ true
      → live_at l.marks.entries k ≡ true;
  sized : AreAsMany l.fn.marks l.marks;
}
