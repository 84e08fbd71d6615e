use Rattle.std.proofs.Common.{◌≡◌, ℕ, ◌<◌, IsTrue}
use Rattle.pbd_store.specs.Moving.{fixed_parts}
use Rattle.pbd_store.specs.Pairs.{Parted, first_moves, second_moves, stays}
use Rattle.pbd_store.proofs.store.Store.move_each.Given as goal

abbrev pub invariant-loop-j : goal.invariant-loop-j
invariant-loop-j g l = record {
  done : Parted l.j l.pairs.first.now l.pairs.second.now (first_moves l.moves)
      (second_moves l.moves) l.initial.self.particles l.self.particles;
  stay : (k : ℕ) → k < l.j → IsTrue (stays l.initial.self.limit l.initial.self.particles l.pairs.first.now l.pairs.second.now
      (first_moves l.moves)
      (second_moves l.moves) k);
  limit : l.self.limit ≡ l.initial.self.limit;
  copies : l.self.copies ≡ l.initial.self.copies;
  fixed : fixed_parts l.self.particles ≡ fixed_parts l.initial.self.particles;
}
