use Rattle.std.proofs.Common.{ℕ}
use Rattle.std.specs.Prelude.{IsTrue}
use Rattle.pbd_num.specs.declared.row.Row.{Row}
use Rattle.pbd_num.specs.Rows.{no_row, vector_of}
use Rattle.pbd_store.specs.Pairs.{row_in}
use Rattle.pbd_pair.specs.Laid.{number_in}
use Rattle.pbd_pair.specs.Shares.{total_in, IsShare}
use Rattle.pbd_pair.proofs.Filling.{Filled}
use Rattle.pbd_pair.proofs.uneven.share.Given as goal

abbrev pub invariant-loop-j : goal.invariant-loop-j
invariant-loop-j l = record {
  back : Filled no_row (λ (i : ℕ) (r : Row). IsTrue l.all → IsShare (vector_of (row_in l.corrections i)) (number_in l.portions.stiffness.now i)
      (number_in l.portions.first.now i) (total_in l.portions i) r) l.j l.back;
  forth : Filled no_row (λ (i : ℕ) (r : Row). IsTrue l.all → IsShare (vector_of (row_in l.corrections i)) (number_in l.portions.stiffness.now i)
      (number_in l.portions.second.now i) (total_in l.portions i) r) l.j l.forth;
}
