use Rattle.std.proofs.Common.{◌≡◌, ℕ, ◌<◌, length, get_or}
use Rattle.pbd_store.specs.Gathering.{index_at}
use Rattle.pbd_pair.specs.Bonds.{bond_of}
use Rattle.pbd_pair.specs.Laid.{laid_at, lists_in, AreEven}
use Rattle.pbd_pair.proofs.Laying.{laid_number}
use Rattle.pbd_pair.proofs.laid.BondColumns.lay.Given as goal

abbrev pub invariant-loop-i : goal.invariant-loop-i
invariant-loop-i l = record {
  even : AreEven (lists_in l.self);
  rows : length l.self.first.items ≡ length l.initial.self.first.items;
  below : (k : ℕ) → k < l.i → laid_at (lists_in l.self) k ≡ laid_number (bond_of l.bonds) (index_at l.weights) (get_or l.order k 0);
}
