use Rattle.std.proofs.Common.{◌≡◌, ℕ, get_or}
use Rattle.pbd_pair.specs.Bonds.{bond_of}
use Rattle.pbd_pair.proofs.Filling.{Filled}
use Rattle.pbd_pair.proofs.chunk.Columns.take_ends.Given as goal

abbrev pub invariant-loop-j : goal.invariant-loop-j
invariant-loop-j l = record {
  first : Filled 0 (λ (i x : ℕ). x ≡ (bond_of l.chunk.bonds (get_or l.chunk.numbers.now i 0)).a) l.j l.self.first;
  second : Filled 0 (λ (i x : ℕ). x ≡ (bond_of l.chunk.bonds (get_or l.chunk.numbers.now i 0)).b) l.j l.self.second;
}
