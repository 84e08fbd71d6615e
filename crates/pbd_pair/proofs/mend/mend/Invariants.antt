use Rattle.std.proofs.Common.{◌≡◌, ℕ, ◌<◌, pos}
use Rattle.pbd_store.specs.Pairs.{row_in}
use Rattle.pbd_pair.specs.Bonds.{bond_of}
use Rattle.pbd_pair.specs.Chunks.{lying_in, AreTried}
use Rattle.pbd_pair.proofs.mend.mend.Given as goal

abbrev pub invariant-loop-j : goal.invariant-loop-j
invariant-loop-j l = record {
  tried : AreTried (bond_of l.found.chunk.bonds) l.found.chunk.numbers.now (lying_in l.found) l.rows;
  right : (i : ℕ) → i < l.j → (row_in l.rows i).flag ≡ pos 0;
}
