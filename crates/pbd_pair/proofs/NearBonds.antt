-- A row that isn't flagged, as the moves of its bond.
use Rattle.std.proofs.Common.{◌≡◌, suc, zero, ◌+◌, ◌^◌, ◌<◌, ℤ, pos, negsuc, ◌≤ℤ◌, ◌<ℤ◌, int_lt, int_le, Bool, true, false, ◌&&◌, cond}
use Rattle.std.proofs.Common.{refl, ap, sym, ◌∙◌, arith, inl, inr, unsigned_abs, ◌⊎◌}
use Rattle.std.proofs.lemmas.Int.{ints}
use Rattle.pbd_num.specs.declared.Vec3.{Vec3}
use Rattle.pbd_num.specs.declared.row.Row.{Row}
use Rattle.pbd_num.specs.Rows.{vector_of, no_row}
use Rattle.pbd_num.specs.Vectors.{opposite, zero_vector, length_of, scaled}
use Rattle.pbd_num.specs.PairMove.{pair_moves, corrections}
use Rattle.pbd_num.proofs.Ends.{Even, parts_of, same_axes, both_moves, part_of_none}
use Rattle.pbd_num.proofs.Lengths.{pair_moves-none}
use Rattle.pbd_num.proofs.Ranges.{wider}
use Rattle.pbd_world.specs.declared.bond.Bond.{Bond}
use Rattle.pbd_near.specs.Moves.{IsPulled}
use Rattle.pbd_pair.specs.Moves.{moves_by}
use Rattle.pbd_pair.specs.Chunks.{kept_by, HoldsFactor, HoldsRest, IsNear}

above : (w : ℤ) → pos 0 <ℤ w → int_lt (pos 0) w ≡ true
above w h = grind (arith, ints, h)

not_above : (w : ℤ) → w ≤ℤ pos 0 → int_lt (pos 0) w ≡ false
not_above w h = grind (arith, ints, h)

pub kept_some : (w : ℤ) (row : Row) → pos 0 <ℤ w → kept_by w row ≡ row
kept_some w row h = ap (λ (b : Bool). cond b row no_row) (above w h)

pub kept_none : (w : ℤ) (row : Row) → w ≤ℤ pos 0 → kept_by w row ≡ no_row
kept_none w row h = ap (λ (b : Bool). cond b row no_row) (not_above w h)

kept_still : (b : Bool) (row : Row) → vector_of row ≡ zero_vector → vector_of (cond b row no_row) ≡ zero_vector
kept_still true row e = e
kept_still false row e = refl

-- the moves of ends of even weights
along_moves : (way parts move_a move_b : Vec3) (rest first second k f : ℤ) → 0 < length_of way → Even first second k f
    → parts ≡ parts_of way (pos
    (length_of way)) rest f → (pos 0 <ℤ first → move_a ≡ opposite parts) → (first ≤ℤ pos 0 → move_a ≡ zero_vector)
    → (pos 0 <ℤ second → move_b ≡ parts)
    → (second ≤ℤ pos 0 → move_b ≡ zero_vector) → (move_a, move_b) ≡ pair_moves way zero_vector rest k first second
along_moves way parts move_a move_b rest first second k f some even is free_a held_a free_b held_b =
    both_moves way parts (opposite parts) move_a move_b (pos (length_of way)) rest first second k f refl (omega (
      arith,
      ints,
    )) even is refl free_a held_a free_b held_b

none_moved : (way : Vec3) (factor rest : ℤ) → factor ≡ pos 0 → scaled factor (pos 512) (corrections way rest) ≡ zero_vector
none_moved way factor rest e =
    let s = corrections way rest in
    same_axes _ _ (part_of_none s.x factor _ e refl) (part_of_none s.y factor _ e refl) (part_of_none s.z factor _ e refl)

pub weightless : (w : ℤ) → pos 0 ≤ℤ w → (w ≡ pos 0) ⊎ (pos 0 <ℤ w)
weightless (pos zero) h = inl refl
weightless (pos (suc n)) h = inr (omega (arith, ints))
weightless (negsuc n) h = absurd (omega (arith, ints))

module _ (way : Vec3) (first second : ℤ) (row : Row) (first_low : pos 0 ≤ℤ first) (second_low : pos 0 ≤ℤ second)
    (some : 0 < length_of way) where
  held_both : (rest k : ℤ) → first ≡ pos 0 → second ≡ pos 0 → pair_moves way zero_vector rest k first second ≡ (
    opposite (vector_of (kept_by first row)),
    vector_of (kept_by second row),
  )
  held_both rest k e f =
      let none : unsigned_abs first + unsigned_abs second ≡ 0 = (λ i. unsigned_abs (e i) + unsigned_abs (f i)) in
      pair_moves-none way zero_vector rest k first second (inr none)
      ∙ sym (λ i. (
        opposite (vector_of (kept_none first row (omega (arith, ints, e)) i)),
        vector_of (kept_none second row (omega (arith, ints, f)) i),
      ))

  held_one : (rest k f : ℤ) → Even first second k f → vector_of row ≡ scaled f (pos 512) (corrections way rest)
      → pair_moves way zero_vector rest k first second ≡ (opposite (vector_of (kept_by first row)), vector_of (kept_by second row))
  held_one rest k f even is = sym (along_moves way (vector_of row) (opposite (vector_of (kept_by first row)))
      (vector_of (kept_by second row)) rest first second k f some even is
      (λ h. ap (λ (r : Row). opposite (vector_of r)) (kept_some first row h))
      (λ h. ap (λ (r : Row). opposite (vector_of r)) (kept_none first row h))
      (λ h. ap vector_of (kept_some second row h))
      (λ h. ap vector_of (kept_none second row h)))

  moves_case : (slack : Bool) (rest k f : ℤ) → (0 < unsigned_abs first + unsigned_abs second → Even first second k f)
      → vector_of row ≡ scaled (cond slack (pos 0) f) (pos 512) (corrections way rest)
      → cond slack (zero_vector, zero_vector) (pair_moves way zero_vector rest k first second)
      ≡ (opposite (vector_of (kept_by first row)), vector_of (kept_by second row))
  moves_case true rest k f even is =
      let still = is ∙ none_moved way (pos 0) rest refl in
      sym (λ i. (opposite (kept_still (int_lt (pos 0) first) row still i), kept_still (int_lt (pos 0) second) row still i))
  moves_case false rest k f even is = elim (weightless first first_low) [
    | inl e ↦ elim (weightless second second_low) [
      | inl g ↦ held_both rest k e g
      | inr h ↦ held_one rest k f (even (omega (arith, ints, h))) is
    ]
    | inr h ↦ held_one rest k f (even (omega (arith, ints, h))) is
  ]

pub near_moves : (way : Vec3) (first second : ℤ) (b : Bond) (row : Row) (rest f : ℤ) (contact : Bool) → pos 0 ≤ℤ first → pos 0 ≤ℤ second
    → HoldsRest b rest → HoldsFactor b first second f → b.contact ≡ contact → row.flag ≡ pos 0 → IsPulled way rest f contact
    (vector_of row) → IsNear way first second b row
unfolding moves_by
near_moves way first second b row rest f contact first_low second_low r factor kind flag pulled =
    let named = pulled.asked in
    let rest_is : rest ≡ b.rest = r.near (factor.short named) in
    let slack : Bool = b.contact && int_le b.rest (pos (length_of way)) in
    let told : vector_of row ≡ scaled (cond slack (pos 0) f) (pos 512) (corrections way rest) =
    pulled.value ∙ (λ i. scaled (cond (sym kind i && int_le (rest_is i) (pos (length_of way))) (pos 0) f) (pos 512) (corrections way rest))
    in
    let even : 0 < unsigned_abs first + unsigned_abs second → Even first second b.k f = λ some. record {
      first_low = first_low;
      second_low = second_low;
      some = some;
      even = factor.even named;
      both = factor.both named;
      by_first = factor.second_held named;
      by_second = factor.first_held named;
    } in
    record {
      flag = flag;
      size = wider _ (2 ^ 16) (2 ^ 22) (omega arith) pulled.size;
      moves = (λ i. cond slack (zero_vector, zero_vector) (pair_moves way zero_vector (sym rest_is i) b.k first second))
          ∙ moves_case way first second row first_low second_low pulled.apart slack rest b.k f even told;
    }
