use Rattle.std.proofs.Common.{ℕ, ◌<◌, IsTrue}
use Rattle.pbd_store.specs.Pairs.{ends_within}
use Rattle.pbd_store.proofs.store.Store.find_outside.Given as goal

abbrev pub invariant-loop-j : goal.invariant-loop-j
invariant-loop-j g l = record {
  below : (k : ℕ) → k < l.j
      → IsTrue (ends_within l.self.limit l.self.particles l.pairs.first.now l.pairs.second.now k);
}
