-- MoveSums of what the ends of bonds move by together.
use Rattle.std.proofs.Common.{◌≡◌, ℕ, ◌+◌, ◌*◌, ◌^◌, ℤ, pos, neg_ℤ, ◌+ℤ◌, List, Bool, true, false, cond, refl, ap, sym, ◌∙◌, add-one, subst, arith}
use Rattle.std.proofs.Common.{◌<◌, ◌≤◌, ◌-ℤ◌, unsigned_abs, to_z, of_z, w32}
use Rattle.std.proofs.lemmas.Int.{to_z-of_z, fits_signed_from_abs}
use Rattle.pbd_num.specs.declared.Vec3.{Vec3}
use Rattle.pbd_num.specs.declared.row.Row.{Row}
use Rattle.pbd_num.specs.Rows.{vector_of, no_row}
use Rattle.pbd_num.specs.Vectors.{Within, plus}
use Rattle.pbd_num.proofs.Ends.{same_axes}
use Rattle.pbd_num.proofs.Ranges.{wider}
use Rattle.pbd_num.proofs.Sizes.{size-add, size-sub}
use Rattle.pbd_num.proofs.VectorSizes.{plus_nothing}
use Rattle.pbd_store.specs.Pairs.{row_in}
use Rattle.pbd_pair.specs.Moves.{moved_below}
use Rattle.pbd_pair.specs.Chunks.{moved_if}
use Rattle.pbd_pair.proofs.Pinning.{both_within, minus_turned}

-- one axis of what counts
abbrev axis_if : Bool → ℤ → ℤ → ℤ
axis_if counts back forth = cond counts (neg_ℤ back +ℤ forth) (pos 0)

-- one axis of a sum and of two rows, as words tell of them
short_is : (z : ℤ) (n : ℕ) → n < 2 ^ 31 → unsigned_abs z ≤ n → to_z w32 (of_z w32 z) ≡ z
short_is z n short size = to_z-of_z w32 z (fits_signed_from_abs w32 z (omega (arith, short, size)))

pub axis_added : (sum back forth : ℤ) {next : ℤ} → unsigned_abs sum ≤ 2 ^ 30 → unsigned_abs back ≤ 2 ^ 22 → unsigned_abs forth ≤ 2 ^ 22
    → next ≡ to_z w32 (of_z w32 sum) +ℤ (to_z w32 (of_z w32 forth) -ℤ to_z w32 (of_z w32 back))
    → to_z w32 (of_z w32 next) ≡ sum +ℤ (forth -ℤ back)
axis_added sum back forth {next} s b f is =
    let told : next ≡ sum +ℤ (forth -ℤ back) = is ∙ (λ i. short_is sum (2 ^ 30) (omega arith) s i
    +ℤ (short_is forth (2 ^ 22) (omega arith) f i -ℤ short_is back (2 ^ 22) (omega arith) b i)) in
    let size : unsigned_abs (sum +ℤ (forth -ℤ back)) ≤ 2 ^ 30 + 2 ^ 23 =
    omega (arith, size-add sum (forth -ℤ back), size-sub forth back, s, b, f) in
    ap (λ (z : ℤ). to_z w32 (of_z w32 z)) told ∙ short_is (sum +ℤ (forth -ℤ back)) (2 ^ 30 + 2 ^ 23) (omega arith) size

pub axis_moved : (counts : Bool) (sum back forth : ℤ) {moved : ℤ} → unsigned_abs sum ≤ 2 ^ 30 → unsigned_abs back ≤ 2 ^ 22
    → unsigned_abs forth ≤ 2 ^ 22 → moved ≡ axis_if counts (to_z w32 (of_z w32 back)) (to_z w32 (of_z w32 forth))
    → unsigned_abs moved ≤ 2 ^ 23
    → to_z w32 (of_z w32 (to_z w32 (of_z w32 sum) +ℤ to_z w32 (of_z w32 moved))) ≡ sum +ℤ axis_if counts back forth
axis_moved counts sum back forth {moved} s b f is m =
    let told : moved ≡ axis_if counts back forth =
    is ∙ (λ i. axis_if counts (short_is back (2 ^ 22) (omega arith) b i) (short_is forth (2 ^ 22) (omega arith) f i)) in
    let size : unsigned_abs (sum +ℤ moved) ≤ 2 ^ 30 + 2 ^ 23 = omega (arith, size-add sum moved, s, m) in
    (λ i. to_z w32 (of_z w32 (short_is sum (2 ^ 30) (omega arith) s i +ℤ short_is moved (2 ^ 23) (omega arith) m i)))
    ∙ short_is (sum +ℤ moved) (2 ^ 30 + 2 ^ 23) (omega arith) size ∙ ap (λ (z : ℤ). sum +ℤ z) told

pub with_moved : (counts : Bool) (next : Vec3) (sum back forth : Row) → next.x ≡ sum.x +ℤ axis_if counts back.x forth.x
    → next.y ≡ sum.y +ℤ axis_if counts back.y forth.y → next.z ≡ sum.z +ℤ axis_if counts back.z forth.z
    → next ≡ plus (vector_of sum) (moved_if counts back forth)
with_moved true next sum back forth x y z = same_axes _ _ x y z
with_moved false next sum back forth x y z = same_axes _ _ x y z

moved_within : (counts : Bool) (n : ℕ) (sum : Vec3) (back forth : Row) → Within n sum → Within (2 ^ 22) (vector_of back)
    → Within (2 ^ 22) (vector_of forth) → Within (n + 2 ^ 23) (plus sum (moved_if counts back forth))
moved_within true n sum back forth h b f = subst (λ (v : Vec3). Within (n + 2 ^ 23) (plus sum v)) (minus_turned (vector_of forth) (vector_of back))
    (both_within sum n h b f)
moved_within false n sum back forth h b f = subst (λ (v : Vec3). Within (n + 2 ^ 23) v) (sym (plus_nothing sum))
    (wider sum n (n + 2 ^ 23) (omega arith) h)

-- a row is the sum of what the ends of those of the first j bonds that count move by
pub record Summed (counts : ℕ → Bool) (back forth : List Row) (j : ℕ) (row : Row) : Type 0 where
  pub sum : vector_of row ≡ moved_below (λ k. moved_if (counts k) (row_in back k) (row_in forth k)) j
  pub size : Within (j * 2 ^ 23) (vector_of row)

pub summed_none : {counts : ℕ → Bool} {back forth : List Row} → Summed counts back forth 0 no_row
summed_none {counts} {back} {forth} = record { sum = refl; size = record { x = omega arith; y = omega arith; z = omega arith } }

pub summed_more : {counts : ℕ → Bool} {back forth : List Row} {j : ℕ} {row : Row} (next : Row) → Within (2 ^ 22) (vector_of (row_in back j))
    → Within (2 ^ 22) (vector_of (row_in forth j)) → vector_of next ≡ plus (vector_of row) (moved_if (counts j) (row_in back j) (row_in forth j))
    → Summed counts back forth j row → Summed counts back forth (j + 1) next
summed_more {counts} {back} {forth} {j} {row} next b f is h = record {
  sum = is ∙ ap (λ (v : Vec3). plus v (moved_if (counts j) (row_in back j) (row_in forth j))) h.sum
      ∙ ap (moved_below (λ k. moved_if (counts k) (row_in back k) (row_in forth k))) (sym (add-one j));
  size = subst (λ (v : Vec3). Within ((j + 1) * 2 ^ 23) v) (sym is)
      (wider _ (j * 2 ^ 23 + 2 ^ 23) ((j + 1) * 2 ^ 23) (omega arith)
      (moved_within (counts j) (j * 2 ^ 23) (vector_of row) (row_in back j) (row_in forth j) h.size b f));
}
