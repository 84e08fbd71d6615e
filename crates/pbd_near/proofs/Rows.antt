-- Rows and columns that are filled one after another.
use Rattle.std.proofs.Common.{◌≡◌, ◌∙◌, ℕ, ◌+◌, ◌<◌, ◌⊎◌, inl, inr, refl, sym, subst, arith, List, length, get_or, slice_set, ℤ, pos, Bool, true, ◌&&◌}
use Rattle.std.proofs.Common.{◌==◌, ◌≤◌, ap, unsigned_abs, to_z, of_z, w32}
use Rattle.std.proofs.lemmas.Int.{to_z-of_z, fits_signed_from_abs}
use Rattle.std.specs.Prelude.{IsTrue}
use Rattle.std.proofs.lemmas.List.{length-set, get_or-set_same, get_or-set_other}
use Rattle.std.proofs.lemmas.Bool.{cases_lt, and_from, and_parts, eq-eqb, eqb-true}
use Rattle.pbd_num.specs.declared.row.Row.{Row}
use Rattle.pbd_num.specs.Rows.{no_row}
use Rattle.pbd_near.specs.declared.shares.Taken.{Taken}
use Rattle.pbd_near.specs.declared.ways.Ways.{Ways}
use Rattle.pbd_near.specs.Columns.{IsTaken, IsFound, taken_at}
use Rattle.pbd_num.proofs.Below.{split_below}

-- what holds of the first j rows, and of the next
rows_more : (P : ℕ → Row → Type 0) (rows : List Row) (j : ℕ) (row : Row) → j < length rows → P j row
    → ((k : ℕ) → k < j → P k (get_or rows k no_row)) → (k : ℕ) → k < j + 1 → P k (get_or (slice_set rows j row) k no_row)
rows_more P rows j row room is before k q = elim (split_below k j q) [
  | inl b ↦ subst (P k) (sym (get_or-set_other rows j k row no_row (λ e. absurd (omega (arith, b, e))))) (before k b)
  | inr e ↦ subst (λ (n : ℕ). P n (get_or (slice_set rows j row) n no_row)) (sym e)
      (subst (P j) (sym (get_or-set_same rows j row no_row room)) is)
]

-- what holds of the first j rows together with the next holds of the first j
rows_before : (P : Row → Type 0) (rows : List Row) (j : ℕ) (row : Row)
    → ((k : ℕ) → k < j + 1 → P (get_or (slice_set rows j row) k no_row)) → (k : ℕ) → k < j → P (get_or rows k no_row)
rows_before P rows j row after k q =
    subst P (get_or-set_other rows j k row no_row (λ e. absurd (omega (arith, q, e)))) (after k (omega (arith, q)))

-- ---- ways

-- the columns hold the first n ways
pub record Holds (n : ℕ) (ways : List Row) (columns : Ways) : Type 0 where
  pub count : columns.count ≡ length ways
  pub x : length columns.x ≡ 128
  pub y : length columns.y ≡ 128
  pub z : length columns.z ≡ 128
  pub square : length columns.square ≡ 128
  pub each : (k : ℕ) → k < n → IsTaken (get_or ways k no_row) (taken_at columns k)

abbrev taken_in : Ways → ℕ → Taken → Ways
taken_in w n t = record {
  x = slice_set w.x n t.x;
  y = slice_set w.y n t.y;
  z = slice_set w.z n t.z;
  square = slice_set w.square n t.square;
  count = w.count;
}

same_taken : (w : Ways) (n k : ℕ) (t : Taken) → k < n → taken_at w k ≡ taken_at (taken_in w n t) k
same_taken w n k t b = λ i. record {
  x = sym (get_or-set_other w.x n k t.x (pos 0) (λ e. absurd (omega (arith, b, e)))) i;
  y = sym (get_or-set_other w.y n k t.y (pos 0) (λ e. absurd (omega (arith, b, e)))) i;
  z = sym (get_or-set_other w.z n k t.z (pos 0) (λ e. absurd (omega (arith, b, e)))) i;
  square = sym (get_or-set_other w.square n k t.square 0 (λ e. absurd (omega (arith, b, e)))) i;
}

next_taken : (w : Ways) (n : ℕ) (t : Taken) (ways : List Row) → n < 128 → Holds n ways w → t ≡ taken_at (taken_in w n t) n
next_taken w n t ways room h = λ i. record {
  x = sym (get_or-set_same w.x n t.x (pos 0) (omega (arith, h.x))) i;
  y = sym (get_or-set_same w.y n t.y (pos 0) (omega (arith, h.y))) i;
  z = sym (get_or-set_same w.z n t.z (pos 0) (omega (arith, h.z))) i;
  square = sym (get_or-set_same w.square n t.square 0 (omega (arith, h.square))) i;
}

pub holds_more : (n : ℕ) (ways : List Row) (w : Ways) (t : Taken) → n < 128 → IsTaken (get_or ways n no_row) t → Holds n ways w
    → Holds (n + 1) ways (taken_in w n t)
holds_more n ways w t room is h = record {
  count = h.count;
  x = length-set w.x n t.x ∙ h.x;
  y = length-set w.y n t.y ∙ h.y;
  z = length-set w.z n t.z ∙ h.z;
  square = length-set w.square n t.square ∙ h.square;
  each = λ k q. elim (split_below k n q) [
    | inl b ↦ subst (IsTaken (get_or ways k no_row)) (same_taken w n k t b) (h.each k b)
    | inr e ↦ subst (λ (m : ℕ). IsTaken (get_or ways m no_row) (taken_at (taken_in w n t) m)) (sym e)
        (subst (IsTaken (get_or ways n no_row)) (next_taken w n t ways room h) is)
  ];
}

-- ---- moves

-- a flag that is 0 as a word
pub no_flag : (flag : ℤ) → unsigned_abs flag ≤ 1 → IsTrue (of_z w32 flag == 0) → flag ≡ pos 0
no_flag flag size t =
    let fits = fits_signed_from_abs w32 flag (omega (arith, size)) in
    sym (to_z-of_z w32 flag fits) ∙ ap (to_z w32) (eqb-true (of_z w32 flag) 0 t)

-- a word is 0 where the flag is
pub zero_flag : (flag : ℤ) → flag ≡ pos 0 → IsTrue (of_z w32 flag == 0)
zero_flag flag e = eq-eqb (of_z w32 flag) 0 (ap (of_z w32) e)

-- the first n rows are found, and `right` is true exactly where none of them is flagged
pub record Found (n : ℕ) (ways : Ways) (rest factor : List ℤ) (contact right : Bool) (moves : List Row) : Type 0 where
  pub each : (k : ℕ) → k < n → IsFound (taken_at ways k) (get_or rest k (pos 0)) (get_or factor k (pos 0)) contact (get_or moves k no_row)
  pub all : IsTrue right → (k : ℕ) → k < n → (get_or moves k no_row).flag ≡ pos 0
  pub only : ((k : ℕ) → k < n → (get_or moves k no_row).flag ≡ pos 0) → IsTrue right

pub found_none : (ways : Ways) (rest factor : List ℤ) (contact : Bool) (moves : List Row) → Found 0 ways rest factor contact true moves
found_none ways rest factor contact moves = record {
  each = λ k q. absurd (omega (arith, q));
  all = λ t k q. absurd (omega (arith, q));
  only = λ none. refl;
}

pub found_more : (n : ℕ) (ways : Ways) (rest factor : List ℤ) (contact all next : Bool) (moves : List Row) (row : Row) → n < length moves
    → IsFound (taken_at ways n) (get_or rest n (pos 0)) (get_or factor n (pos 0)) contact row → (IsTrue next → row.flag ≡ pos 0)
    → (row.flag ≡ pos 0 → IsTrue next)
    → Found n ways rest factor contact all moves → Found (n + 1) ways rest factor contact (all && next) (slice_set moves n row)
found_more n ways rest factor contact all next moves row room is unflagged next_right h = record {
  each = rows_more (λ k r. IsFound (taken_at ways k) (get_or rest k (pos 0)) (get_or factor k (pos 0)) contact r) moves n row room is
      h.each;
  all = λ t. let both = and_parts all next t in
      rows_more (λ k r. r.flag ≡ pos 0) moves n row room (unflagged both.1) (h.all both.0);
  only = λ none. and_from all next (h.only (rows_before (λ r. r.flag ≡ pos 0) moves n row none))
      (next_right (ap (λ (r : Row). r.flag) (sym (get_or-set_same moves n row no_row room)) ∙ none n (omega arith)));
}
