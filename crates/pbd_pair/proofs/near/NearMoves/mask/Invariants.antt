use Rattle.std.proofs.Common.{◌≡◌, ℕ, ◌*◌, ◌^◌}
use Rattle.pbd_num.specs.declared.row.Row.{Row}
use Rattle.pbd_num.specs.Rows.{no_row, vector_of}
use Rattle.pbd_num.specs.Vectors.{Within}
use Rattle.pbd_store.specs.Pairs.{row_in}
use Rattle.pbd_pair.specs.Moves.{moved_below}
use Rattle.pbd_pair.specs.Chunks.{kept_by}
use Rattle.pbd_pair.specs.Laid.{number_in}
use Rattle.pbd_pair.proofs.Filling.{Filled}
use Rattle.pbd_pair.proofs.Settled.{kept_moves}
use Rattle.pbd_pair.proofs.near.NearMoves.mask.Given as goal

abbrev pub invariant-loop-j : goal.invariant-loop-j
invariant-loop-j l = record {
  same : l.self.moves ≡ l.initial.self.moves;
  back : Filled no_row (λ (i : ℕ) (r : Row). r ≡ kept_by (number_in l.found.laid.first_weight.now i) (row_in l.initial.self.moves i)) l.j
      l.self.back;
  forth : Filled no_row (λ (i : ℕ) (r : Row). r ≡ kept_by (number_in l.found.laid.second_weight.now i) (row_in l.initial.self.moves i)) l.j
      l.self.forth;
  sum : vector_of l.pins ≡ moved_below (kept_moves l.found.laid.first_weight.now l.found.laid.second_weight.now l.initial.self.moves) l.j;
  size : Within (l.j * 2 ^ 23) (vector_of l.pins);
}
