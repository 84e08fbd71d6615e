-- What the rows of a chunk's bonds come to, where one row tells both moves of a bond: only a move beside a held end counts.
use Rattle.std.proofs.Common.{◌≡◌, ℕ, zero, suc, ◌<◌, ◌*◌, ◌^◌, ℤ, pos, neg_ℤ, ◌+ℤ◌, ◌<ℤ◌, List, length, Bool, true, false, ◌||◌, not}
use Rattle.std.proofs.Common.{int_le, refl, sym, ◌∙◌, arith}
use Rattle.std.proofs.lemmas.Int.{ints}
use Rattle.pbd_num.specs.declared.Vec3.{Vec3}
use Rattle.pbd_num.specs.declared.row.Row.{Row}
use Rattle.pbd_num.specs.Rows.{vector_of}
use Rattle.pbd_num.specs.Vectors.{Within, plus, opposite, zero_vector}
use Rattle.pbd_num.proofs.VectorSizes.{plus_nothing}
use Rattle.pbd_store.specs.Pairs.{row_in}
use Rattle.pbd_pair.specs.declared.chunk.Found.{Found}
use Rattle.pbd_pair.specs.Bonds.{bond_of}
use Rattle.pbd_pair.specs.Moves.{moved_below}
use Rattle.pbd_pair.specs.Laid.{number_in}
use Rattle.pbd_pair.specs.Chunks.{lying_in, moved_if, AreInColumns, AreMoved, AreNear, AreWeighed, IsMasked}
use Rattle.pbd_pair.specs.Told.{beside, no_sums, sum_where, AreSummed}
use Rattle.pbd_pair.proofs.Pinning.{moved_same, moved_nothing}
use Rattle.pbd_pair.proofs.NearBonds.{kept_some}
use Rattle.pbd_pair.proofs.Settled.{kept_short, kept_unflagged}

-- ---- two ends

weighs : (w : ℤ) → int_le w (pos 0) ≡ false → pos 0 <ℤ w
weighs w e = grind (arith, ints, e)

opposite_left : (v : Vec3) → plus (opposite v) v ≡ zero_vector
opposite_left v = λ i. record { x = back v.x i; y = back v.y i; z = back v.z i } where
  back : (a : ℤ) → neg_ℤ a +ℤ a ≡ pos 0
  back a = omega (arith, ints)

-- two free ends move oppositely
abbrev Opposite : Bool → Bool → Row → Row → Type 0
Opposite first second back forth = first ≡ false → second ≡ false → plus (opposite (vector_of back)) (vector_of forth) ≡ zero_vector

counts_beside : (first second : Bool) (back forth : Row) → Opposite first second back forth
    → plus (opposite (vector_of back)) (vector_of forth) ≡ moved_if (first || second) back forth
counts_beside false false back forth free = free refl refl
counts_beside false true back forth free = refl
counts_beside true second back forth free = refl

counts_nowhere : (first second : Bool) (back forth : Row) → Opposite first second back forth
    → zero_vector ≡ moved_if (not (first || second)) back forth
counts_nowhere false false back forth free = sym (free refl refl)
counts_nowhere false true back forth free = refl
counts_nowhere true second back forth free = refl

-- ---- many

none_below : (n : ℕ) → zero_vector ≡ moved_below (λ j. zero_vector) n
none_below zero = refl
none_below (suc n) = none_below n ∙ sym (plus_nothing (moved_below (λ j. zero_vector) n))

none_within : (n : ℕ) → Within n zero_vector
none_within n = record { x = omega arith; y = omega arith; z = omega arith }

pub weighed_in : {found : Found} → AreInColumns found
    → AreWeighed (length found.laid.first_weight.now) found.laid.first_weight.now found.laid.second_weight.now
weighed_in columns = record {
  first_low = λ j p. columns.sized.first_low j (omega (arith, p, columns.first_long));
  first_high = λ j p. columns.sized.first_high j (omega (arith, p, columns.first_long));
  second_low = λ j p. columns.sized.second_low j (omega (arith, p, columns.first_long));
  second_high = λ j p. columns.sized.second_high j (omega (arith, p, columns.first_long));
}

module _ (found : Found) {moves back forth : List Row}
    (near : AreNear (bond_of found.chunk.bonds) found.chunk.numbers.now (lying_in found) moves)
    (masked : IsMasked (length found.chunk.numbers.now) (lying_in found) moves back forth) where
  near_moved : AreMoved (bond_of found.chunk.bonds) found.chunk.numbers.now (lying_in found) back forth
  near_moved = record {
    back_long = masked.back_long;
    forth_long = masked.forth_long;
    each = λ j p. record {
      back_flag = kept_unflagged (number_in found.laid.first_weight.now j) (row_in moves j) (masked.back j p) (near.each j p).flag;
      forth_flag = kept_unflagged (number_in found.laid.second_weight.now j) (row_in moves j) (masked.forth j p) (near.each j p).flag;
      back_size = kept_short (number_in found.laid.first_weight.now j) (row_in moves j) (masked.back j p) (near.each j p).size;
      forth_size = kept_short (number_in found.laid.second_weight.now j) (row_in moves j) (masked.forth j p) (near.each j p).size;
      moves = (near.each j p).moves ∙ (λ i. (opposite (vector_of (sym (masked.back j p) i)), vector_of (sym (masked.forth j p) i)));
    };
  }

  -- what both ends of a bond move by
  abbrev both : ℕ → Vec3
  both j = plus (opposite (vector_of (row_in back j))) (vector_of (row_in forth j))

  free_ends : (j : ℕ) → j < length found.chunk.numbers.now → Opposite (int_le (number_in found.laid.first_weight.now j) (pos 0))
      (int_le (number_in found.laid.second_weight.now j) (pos 0)) (row_in back j) (row_in forth j)
  free_ends j p first second =
      let back_is = masked.back j p ∙ kept_some (number_in found.laid.first_weight.now j) (row_in moves j) (weighs _ first) in
      let forth_is = masked.forth j p ∙ kept_some (number_in found.laid.second_weight.now j) (row_in moves j) (weighs _ second) in
      (λ i. plus (opposite (vector_of (back_is i))) (vector_of (forth_is i))) ∙ opposite_left (vector_of (row_in moves j))

  sum_beside : moved_below both (length found.chunk.numbers.now) ≡ sum_where (beside found) back forth found
  sum_beside = moved_same _ _ (length found.chunk.numbers.now) (λ j p. counts_beside _ _ (row_in back j) (row_in forth j) (free_ends j p))

  sum_nowhere : zero_vector ≡ sum_where (λ j. not (beside found j)) back forth found
  sum_nowhere = none_below (length found.chunk.numbers.now)
      ∙ moved_same _ _ (length found.chunk.numbers.now) (λ j p. counts_nowhere _ _ (row_in back j) (row_in forth j) (free_ends j p))

  -- the moves beside held ends are all that is booked
  pub masked_sums : {pins : Vec3} → pins ≡ moved_below both (length found.chunk.numbers.now)
      → Within (length found.chunk.numbers.now * 2 ^ 23) pins
      → AreSummed found back forth (record { pins = pins; own = zero_vector })
  masked_sums sum size = record {
    moved = near_moved;
    pins = sum ∙ sum_beside;
    own = sum_nowhere;
    pins_size = size;
    own_size = none_within (length found.chunk.numbers.now * 2 ^ 23);
  }

-- where no row is masked, nothing is booked
pub free_sums : (found : Found) {moves : List Row} → AreNear (bond_of found.chunk.bonds) found.chunk.numbers.now (lying_in found) moves
    → IsMasked (length found.chunk.numbers.now) (lying_in found) moves moves moves → AreSummed found moves moves no_sums
free_sums found {moves} near masked = masked_sums found near masked
    (sym (moved_nothing (λ j. vector_of (row_in moves j)) (length found.chunk.numbers.now)))
    (none_within (length found.chunk.numbers.now * 2 ^ 23))
