use Rattle.std.proofs.Common.{ℕ, get_or}
use Rattle.pbd_num.specs.declared.row.Row.{Row}
use Rattle.pbd_num.specs.Rows.{vector_of, no_row}
use Rattle.pbd_store.specs.Pairs.{row_in}
use Rattle.pbd_pair.specs.Bonds.{bond_of}
use Rattle.pbd_pair.specs.Laid.{number_in}
use Rattle.pbd_pair.proofs.Filling.{Filled}
use Rattle.pbd_pair.proofs.WideRows.{IsRow}
use Rattle.pbd_pair.proofs.wide.put_short_rows.Given as goal

abbrev pub invariant-loop-j : goal.invariant-loop-j
invariant-loop-j l = Filled no_row (λ (i : ℕ) (r : Row).
    IsRow (vector_of (row_in l.found.ways.now i)) (number_in l.found.laid.first_weight.now i)
    (number_in l.found.laid.second_weight.now i) (bond_of l.found.chunk.bonds (get_or l.found.chunk.numbers.now i 0)) l.all r) l.j l.rows
