use Rattle.std.proofs.Common.{◌≡◌, ℕ, ◌<◌, length}
use Rattle.pbd_store.specs.Gathering.{index_at}
use Rattle.pbd_store.specs.InRows.{places_in}
use Rattle.pbd_store.specs.Listed.{place_at}
use Rattle.pbd_store.specs.Pairs.{IsWay, row_in}
use Rattle.pbd_store.proofs.pulling.put_ways.Given as goal

abbrev pub invariant-loop-j : goal.invariant-loop-j
invariant-loop-j l = record {
  whole : length l.ways ≡ length l.initial.ways;
  ways : (k : ℕ) → k < l.j → IsWay (row_in l.ways k) (place_at (places_in l.rows) (index_at l.pairs.first.now k))
      (place_at (places_in l.rows) (index_at l.pairs.second.now k));
}
