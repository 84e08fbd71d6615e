use Rattle.std.proofs.Common.{ℕ, get_or}
use Rattle.pbd_num.specs.Rows.{vector_of}
use Rattle.pbd_store.specs.declared.pairs.EndMoves.{EndMoves}
use Rattle.pbd_pair.specs.Bonds.{bond_of}
use Rattle.pbd_store.specs.Pairs.{no_moves, row_in}
use Rattle.pbd_pair.specs.Laid.{number_in}
use Rattle.pbd_pair.specs.Chunks.{IsExact}
use Rattle.pbd_pair.proofs.Filling.{Filled}
use Rattle.pbd_pair.proofs.slow.exact_each.Given as goal

abbrev pub invariant-loop-j : goal.invariant-loop-j
invariant-loop-j l = Filled no_moves (λ (i : ℕ) (m : EndMoves). IsExact (vector_of (row_in l.found.ways.now i))
    (number_in l.found.laid.first_weight.now i) (number_in l.found.laid.second_weight.now i) (bond_of l.found.chunk.bonds
    (get_or l.found.chunk.numbers.now i 0)) m) l.j l.moves
