-- Rows of 64-bit numbers, as the moves of their bonds.
use Rattle.std.proofs.Common.{◌≡◌, ℕ, ◌+◌, ◌/◌, ◌<◌, ◌≤◌, ◌^◌, ℤ, pos, negsuc, neg_ℤ, ◌*ℤ◌, ◌≤ℤ◌, ◌<ℤ◌, Bool, IsTrue, to_z, of_z, w32, FitsSigned}
use Rattle.std.proofs.Common.{unsigned_abs, List, length, get_or, slice_set, refl, ap, sym, ◌∙◌, arith, subst, inl, inr}
use Rattle.std.proofs.lemmas.Bool.{cases_eq}
use Rattle.std.proofs.lemmas.Int.{ints, to_z-of_z}
use Rattle.std.proofs.lemmas.List.{length-set, get_or-set_same, get_or-set_other}
use Rattle.pbd_num.specs.declared.Vec3.{Vec3}
use Rattle.pbd_num.specs.declared.row.Row.{Row}
use Rattle.pbd_num.specs.declared.tried.Pull.{Pull}
use Rattle.pbd_num.specs.Rows.{vector_of, no_row}
use Rattle.pbd_num.specs.Vectors.{Within, opposite, zero_vector, length_of}
use Rattle.pbd_num.specs.PairMove.{pair_moves}
use Rattle.pbd_num.proofs.Ends.{same_axes}
use Rattle.pbd_num.proofs.Ranges.{wider}
use Rattle.pbd_num.proofs.VectorSizes.{opposite_within}
use Rattle.pbd_world.specs.declared.bond.Bond.{Bond}
use Rattle.pbd_store.specs.declared.pairs.EndMoves.{EndMoves}
use Rattle.pbd_store.specs.Pairs.{row_in}
use Rattle.pbd_pair.specs.Moves.{moves_by}
use Rattle.pbd_pair.specs.declared.chunk.Found.{Found}
use Rattle.pbd_pair.specs.Bonds.{bond_of}
use Rattle.pbd_pair.specs.Laid.{number_in, IsFirm}
use Rattle.pbd_pair.specs.Chunks.{pull_by, kept_by, reach_of, AreInColumns, AreKnown, AreTried, HoldsFactor, HoldsRest, IsPull, IsExact, IsMild}
use Rattle.pbd_pair.specs.Chunks.{IsNear, IsTold, Lying}
use Rattle.pbd_pair.proofs.Chunks.{first_fits, second_fits, share_fits}
use Rattle.pbd_pair.proofs.Exact.{moves_by_reach}
use Rattle.pbd_pair.proofs.Filling.{Filled}
use Rattle.pbd_pair.proofs.Laying.{rest_fits_short}
use Rattle.pbd_pair.proofs.NearBonds.{kept_none, kept_some, weightless}
use Rattle.pbd_pair.proofs.Settled.{kept_size_by}
use Rattle.pbd_num.proofs.Below.{split_below}

-- what a firm bond pulls its ends to
pub is_pull : {b : Bond} {d : Pull} → d ≡ pull_by b → IsFirm b → IsPull b d
is_pull {b} {d} e firm = record {
  value = e;
  mild = subst (λ (x : Pull). IsMild x) (sym e) (record {
    rest_low = firm.rest_low;
    rest_high = firm.rest_high;
    k_low = firm.k_low;
    k_high = firm.k_high;
  });
}

opposite_twice : (v : Vec3) → opposite (opposite v) ≡ v
opposite_twice v = same_axes _ _ (back v.x) (back v.y) (back v.z) where
  back : (a : ℤ) → neg_ℤ (neg_ℤ a) ≡ a
  back a = omega (arith, ints)

-- ---- a row that holds the move of the second end where that is free, and else the opposite of the move of the first

module _ (first second : ℤ) (row : Row) (a m : Vec3) (first_low : pos 0 ≤ℤ first) (second_low : pos 0 ≤ℤ second) (first_held : first ≡ pos 0
    → a ≡ zero_vector) (second_held : second ≡ pos 0 → m ≡ zero_vector) (opposed : pos 0 <ℤ first → pos 0 <ℤ second → a ≡ opposite m)
    (free : pos 0
    <ℤ second → vector_of row ≡ m) (held : second ≤ℤ pos 0 → vector_of row ≡ opposite a) where
  second_kept : m ≡ vector_of (kept_by second row)
  second_kept = elim (weightless second second_low) [
    | inl e ↦ second_held e ∙ ap vector_of (sym (kept_none second row (omega (arith, ints, e))))
    | inr h ↦ sym (free h) ∙ ap vector_of (sym (kept_some second row h))
  ]

  by_second : pos 0 <ℤ first → a ≡ opposite (vector_of row)
  by_second f = elim (weightless second second_low) [
    | inl e ↦ sym (opposite_twice a) ∙ ap opposite (sym (held (omega (arith, ints, e))))
    | inr h ↦ opposed f h ∙ ap opposite (sym (free h))
  ]

  first_kept : a ≡ opposite (vector_of (kept_by first row))
  first_kept = elim (weightless first first_low) [
    | inl e ↦ first_held e ∙ ap (λ (r : Row). opposite (vector_of r)) (sym (kept_none first row (omega (arith, ints, e))))
    | inr h ↦ by_second h ∙ ap (λ (r : Row). opposite (vector_of r)) (sym (kept_some first row h))
  ]

  abbrev both : Vec3 × Vec3
  both = (a, m)

  pub wide_near : (way : Vec3) (b : Bond) (len : ℤ) → length_of way < 2 ^ 31 → len ≡ pos (length_of way) → (len <ℤ reach_of b
      → both ≡ pair_moves way zero_vector b.rest b.k first second) → (reach_of b ≤ℤ len → a ≡ zero_vector)
      → (reach_of b ≤ℤ len → m ≡ zero_vector)
      → row.flag ≡ pos 0 → Within (2 ^ 22) (vector_of row) → IsNear way first second b row
  wide_near way b len short long near first_rests second_rests flag size =
      let rests : reach_of b ≤ℤ len → both ≡ (zero_vector, zero_vector) = λ h. λ i. (first_rests h i, second_rests h i) in
      let told : both ≡ moves_by way first second b = moves_by_reach way first second b both (reach_of b) refl short
      (subst (λ (z : ℤ). z <ℤ reach_of b → both ≡ pair_moves way zero_vector b.rest b.k first second) long near)
      (subst (λ (z : ℤ). reach_of b ≤ℤ z → both ≡ (zero_vector, zero_vector)) long rests) in
      let kept : both ≡ (opposite (vector_of (kept_by first row)), vector_of (kept_by second row)) = λ i. (first_kept i, second_kept i) in
      record { flag = flag; size = size; moves = sym told ∙ kept }

-- ---- rows one after another

pub same_row : {v w : Vec3} {f g h k : ℤ} {b d : Bond} {r : Row} → v ≡ w → f ≡ g → h ≡ k → b ≡ d → IsNear v f h b r → IsNear w g k d r
same_row {v} {w} {f} {g} {h} {k} {b} {d} {r} way first second bond is =
    subst (λ (x : Vec3). IsNear x g k d r) way (subst (λ (x : ℤ). IsNear v x k d r) first (subst (λ (x : ℤ). IsNear v f x d r) second
    (subst (λ (x : Bond). IsNear v f h x r) bond is)))

-- a row without a flag is the move of its bond, and where `all` is true it has none
pub record IsRow (way : Vec3) (first second : ℤ) (b : Bond) (all : Bool) (row : Row) : Type 0 where
  pub near : row.flag ≡ pos 0 → IsNear way first second b row
  pub flag : IsTrue all → row.flag ≡ pos 0

-- a flag that is 0 as a word
pub no_flag : (flag : ℤ) → FitsSigned w32 flag → of_z w32 flag ≡ 0 → flag ≡ pos 0
no_flag flag fits e = sym (to_z-of_z w32 flag fits) ∙ ap (to_z w32) e

-- ---- a row as exact moves

pub row_exact : {way : Vec3} {first second : ℤ} {b : Bond} {row : Row} (m : EndMoves) → IsNear way first second b row
    → m.first ≡ opposite (vector_of (kept_by first row)) → m.second ≡ vector_of (kept_by second row) → IsExact way first second b m
row_exact {way} {first} {second} {b} {row} m is e f = record {
  moves = (λ i. (e i, f i)) ∙ sym is.moves;
  first = subst (λ (v : Vec3). Within (2 ^ 31) v) (sym e)
      (opposite_within _ (2 ^ 31) (wider _ _ (2 ^ 31) (omega arith) (kept_size_by first row is.size)));
  second = subst (λ (v : Vec3). Within (2 ^ 31) v) (sym f) (wider _ _ (2 ^ 31) (omega arith) (kept_size_by second row is.size));
}

pub same_exact : {v w : Vec3} {f g h k : ℤ} {b d : Bond} {m : EndMoves} → v ≡ w → f ≡ g → h ≡ k → b ≡ d → IsExact v f h b m
    → IsExact w g k d m
same_exact {v} {w} {f} {g} {h} {k} {b} {d} {m} way first second bond is =
    subst (λ (x : Vec3). IsExact x g k d m) way (subst (λ (x : ℤ). IsExact v x k d m) first (subst (λ (x : ℤ). IsExact v f x d m) second
    (subst (λ (x : Bond). IsExact v f h x m) bond is)))

pub near_told : {way : Vec3} {first second : ℤ} {b : Bond} {row : Row} (m : EndMoves) → IsTold first second m row
    → (m.first, m.second) ≡ moves_by way first second b → row.flag ≡ pos 0 → IsNear way first second b row
near_told {way} {first} {second} {b} {row} m told moves flag = record {
  flag = flag;
  size = told.size flag;
  moves = sym moves ∙ (λ i. (told.first flag i, told.second flag i));
}

-- ---- one row after another is mended

pub tried_more : {bond : ℕ → Bond} {numbers : List ℕ} {l : Lying} {rows : List Row} (j : ℕ) (row : Row) → AreTried bond numbers l rows
    → j < length numbers → (row.flag ≡ pos 0 → IsNear (vector_of (row_in l.ways j)) (number_in l.first_weight j)
    (number_in l.second_weight j) (bond (get_or numbers j 0)) row) → AreTried bond numbers l (slice_set rows j row)
tried_more {bond} {numbers} {l} {rows} j row tried p is = record {
  long = omega (arith, length-set rows j row, tried.long);
  each = λ k q. elim (cases_eq k j) [
    | inl e ↦ subst (λ (i : ℕ). (get_or (slice_set rows j row) i no_row).flag ≡ pos 0 → IsNear (vector_of (row_in l.ways i))
        (number_in l.first_weight i) (number_in l.second_weight i) (bond (get_or numbers i 0)) (get_or (slice_set rows j row) i no_row))
        (sym e) (subst (λ (r : Row). r.flag ≡ pos 0 → IsNear (vector_of (row_in l.ways j)) (number_in l.first_weight j)
        (number_in l.second_weight j) (bond (get_or numbers j 0)) r)
        (sym (get_or-set_same rows j row no_row (omega (arith, tried.long)))) is)
    | inr n ↦ subst (λ (r : Row). r.flag ≡ pos 0 → IsNear (vector_of (row_in l.ways k)) (number_in l.first_weight k)
        (number_in l.second_weight k) (bond (get_or numbers k 0)) r) (sym (get_or-set_other rows j k row no_row n)) (tried.each k q)
  ];
}

pub unflagged_more : (rows : List Row) (j : ℕ) (row : Row) → j < length rows → row.flag ≡ pos 0
    → ((k : ℕ) → k < j → (row_in rows k).flag ≡ pos 0) → (k : ℕ) → k < j + 1 → (row_in (slice_set rows j row) k).flag ≡ pos 0
unflagged_more rows j row room flag before k q = elim (split_below k j q) [
  | inl b ↦ ap (λ (r : Row). r.flag) (get_or-set_other rows j k row no_row (λ e. absurd (omega (arith, b, e)))) ∙ before k b
  | inr e ↦ ap (λ (i : ℕ). (row_in (slice_set rows j row) i).flag) e
      ∙ ap (λ (r : Row). r.flag) (get_or-set_same rows j row no_row room) ∙ flag
]

-- ---- what a short bond pulls its ends to, by its columns

half_of_twice : (f k : ℤ) → pos 0 ≤ℤ k → f ≡ pos 2 *ℤ k → pos (unsigned_abs f / 2) ≡ k
half_of_twice f (pos n) low e = ap (λ (z : ℤ). pos (unsigned_abs z / 2)) e ∙ ap pos (omega arith)
half_of_twice f (negsuc n) low e = absurd (omega (arith, ints))

module _ {b : Bond} {first second f k : ℤ} (first_low : pos 0 ≤ℤ first) (second_low : pos 0 ≤ℤ second) (firm : IsFirm b)
    (holds : HoldsFactor b first second f) (named : pos 0 ≤ℤ f) (both : pos 0 <ℤ first → pos 0 <ℤ second → k ≡ f)
    (by_first : first ≤ℤ pos 0 → k ≡ pos (unsigned_abs f / 2)) (by_second : second ≤ℤ pos 0 → k ≡ pos (unsigned_abs f / 2)) where
  pub short_stiffness : k ≡ b.k
  short_stiffness = elim (weightless first first_low) [
    | inl e ↦ by_first (omega (arith, ints, e)) ∙ half_of_twice f b.k firm.k_low (holds.first_held named e)
    | inr h ↦ elim (weightless second second_low) [
      | inl g ↦ by_second (omega (arith, ints, g)) ∙ half_of_twice f b.k firm.k_low (holds.second_held named g)
      | inr i ↦ both h i ∙ holds.both named h i
    ]
  ]

pub same_factor : {b : Bond} {f g h k x : ℤ} → f ≡ g → h ≡ k → HoldsFactor b f h x → HoldsFactor b g k x
same_factor {b} {f} {g} {h} {k} {x} first second is =
    subst (λ (z : ℤ). HoldsFactor b z k x) first (subst (λ (z : ℤ). HoldsFactor b f z x) second is)

-- of bond j of a chunk, by what words tell of its columns
pub pulled_in_columns : {found : Found} {first second : ℤ} {contact : Bool} {d : Pull} → AreKnown found.chunk.bonds found.chunk.numbers.now
    → AreInColumns found → (j : ℕ) → j < length found.chunk.numbers.now
    → first ≡ to_z w32 (of_z w32 (number_in found.laid.first_weight.now j))
    → second ≡ to_z w32 (of_z w32 (number_in found.laid.second_weight.now j))
    → ((n : ℕ) → (bond_of found.chunk.bonds n).contact ≡ contact)
    → ((b : Bond) → IsFirm b → HoldsRest b (to_z w32 (of_z w32 (number_in found.laid.rest.now j)))
    → HoldsFactor b first second (to_z w32 (of_z w32 (number_in found.laid.factor.now j))) → b.contact ≡ contact → IsPull b d)
    → IsPull (bond_of found.chunk.bonds (get_or found.chunk.numbers.now j 0)) d
pulled_in_columns {found} {first} {second} {contact} {d} known columns j p first_is second_is kind told =
    let rest = columns.rest j p in
    let factor = columns.factor j p in
    let f1 : FitsSigned w32 (number_in found.laid.first_weight.now j) = first_fits columns.sized j p in
    let f2 : FitsSigned w32 (number_in found.laid.second_weight.now j) = second_fits columns.sized j p in
    let f3 : FitsSigned w32 (number_in found.laid.rest.now j) = rest_fits_short _ _ rest in
    let f4 : FitsSigned w32 (number_in found.laid.factor.now j) = share_fits _ factor.low factor.high in
    let a = simp to_z-of_z at first_is in
    let b = simp to_z-of_z at second_is in
    let pulled = simp to_z-of_z at told in
    pulled _ (known.firm j p) rest (same_factor (sym a) (sym b) factor) (kind _)

-- ---- rows that are all written

pub rows_tried : {bond : ℕ → Bond} {numbers : List ℕ} {l : Lying} {rows : List Row} {all : Bool} {j : ℕ} → length numbers ≤ 128
    → length numbers ≤ j → Filled no_row (λ (i : ℕ) (r : Row). IsRow (vector_of (row_in l.ways i)) (number_in l.first_weight i)
    (number_in l.second_weight i) (bond (get_or numbers i 0)) all r) j rows → AreTried bond numbers l rows
rows_tried few whole h = record { long = omega (arith, h.whole, few); each = λ k p. (h.below k (omega (arith, whole, p))).near }
