-- The shares of a correction, as the moves of their bond.
use Rattle.std.proofs.Common.{◌≡◌, suc, ◌+◌, ◌*◌, ◌/◌, ◌<◌, ◌^◌, ℤ, pos, negsuc, neg_ℤ, ◌≤ℤ◌, ◌*ℤ◌, int_le, Bool, true, false, ◌&&◌}
use Rattle.std.proofs.Common.{cond, refl, ap, sym, ◌∙◌, arith, inl, inr, unsigned_abs}
use Rattle.std.proofs.lemmas.Bool.{cases_lt}
use Rattle.std.proofs.lemmas.Int.{ints}
use Rattle.pbd_num.specs.declared.Vec3.{Vec3}
use Rattle.pbd_num.specs.declared.row.Row.{Row}
use Rattle.pbd_num.specs.Rounding.{rdiv}
use Rattle.pbd_num.specs.Rows.{vector_of}
use Rattle.pbd_num.specs.Vectors.{opposite, zero_vector, length_of, scaled}
use Rattle.pbd_num.specs.PairMove.{corrections, pair_moves, share_of, shares}
use Rattle.pbd_num.proofs.Ends.{part_of_none, same_axes}
use Rattle.pbd_num.proofs.Ranges.{wider}
use Rattle.pbd_num.proofs.Signs.{rdiv-cancel, rdiv_zero}
use Rattle.pbd_num.proofs.Ways.{along-by_steps, along-none}
use Rattle.pbd_world.specs.declared.bond.Bond.{Bond}
use Rattle.pbd_near.specs.Moves.{IsPulled}
use Rattle.pbd_pair.specs.Moves.{moves_by}
use Rattle.pbd_pair.specs.Chunks.{HoldsRest, HoldsStiffness, IsMoved}
use Rattle.pbd_pair.specs.Shares.{IsShare}

-- ---- the whole of a correction

of_one : (z : ℤ) → rdiv z (pos 1) ≡ z
unfolding rdiv
of_one (pos a) = let e : (2 * a + 1) / 2 ≡ a = omega arith in ap pos e
of_one (negsuc a) = let e : (2 * (a + 1) + 1) / 2 ≡ suc a = omega arith in ap (λ n. neg_ℤ (pos n)) e

whole_axis : (z : ℤ) → rdiv (z *ℤ pos 512) (pos 512) ≡ z
whole_axis z = rdiv-cancel z 512 1 (omega arith) (omega arith) ∙ of_one z

scaled_by_one : (v : Vec3) → scaled (pos 512) (pos 512) v ≡ v
scaled_by_one v = same_axes _ _ (whole_axis v.x) (whole_axis v.y) (whole_axis v.z)

nothing : (v : Vec3) → scaled (pos 0) (pos 512) v ≡ zero_vector
nothing v = same_axes _ _ (part_of_none v.x (pos 0) _ refl refl) (part_of_none v.y (pos 0) _ refl refl) (part_of_none v.z (pos 0) _ refl refl)

zero_times : (z : ℤ) → pos 0 *ℤ z ≡ pos 0
zero_times z = omega (arith, ints)

no_product : (k w : ℤ) → (pos 0 *ℤ k) *ℤ w ≡ pos 0
no_product k w = ap (λ z. z *ℤ w) (zero_times k) ∙ zero_times w

share_of_nothing : (k w : ℤ) {total : _} → 0 < total → share_of (pos 0) k w total ≡ pos 0
share_of_nothing k w {total} some = ap (λ z. rdiv z (pos (256 * total))) (no_product k w) ∙ rdiv_zero (256 * total) (omega arith)

-- ---- both ends

module _ (way : Vec3) (first second : ℤ) where
  abbrev both_zero : Vec3 × Vec3
  both_zero = (zero_vector, zero_vector)

  shared_case : (slack : Bool) (rest k : ℤ) (correction back forth : Vec3) → 0 < length_of way → 0 < unsigned_abs first + unsigned_abs second
      → correction ≡ scaled (cond slack (pos 0) (pos 512)) (pos 512) (corrections way rest)
      → back ≡ shares correction k first (unsigned_abs first + unsigned_abs second)
      → forth ≡ shares correction k second (unsigned_abs first + unsigned_abs second)
      → cond slack both_zero (pair_moves way zero_vector rest k first second) ≡ (opposite back, forth)
  shared_case true rest k correction back forth apart some is first_is second_is =
      let still = is ∙ nothing (corrections way rest) in
      let none : (w : ℤ) → shares zero_vector k w (unsigned_abs first + unsigned_abs second) ≡ zero_vector =
      λ w. same_axes _ _ (share_of_nothing k w some) (share_of_nothing k w some) (share_of_nothing k w some) in
      let first_none = first_is ∙ ap (λ (v : Vec3). shares v k first (unsigned_abs first + unsigned_abs second)) still ∙ none first in
      let second_none = second_is ∙ ap (λ (v : Vec3). shares v k second (unsigned_abs first + unsigned_abs second)) still ∙ none second in
      sym (λ i. (opposite (first_none i), second_none i))
  shared_case false rest k correction back forth apart some is first_is second_is =
      sym (along-by_steps way correction back forth (opposite back) rest k first second (unsigned_abs first + unsigned_abs second)
      (is ∙ scaled_by_one (corrections way rest)) first_is second_is refl refl apart some)

  -- where both ends are held
  held_case : (slack : Bool) (rest k : ℤ) (back forth : Vec3) → unsigned_abs first + unsigned_abs second ≡ 0 → back ≡ zero_vector
      → forth ≡ zero_vector → cond slack both_zero (pair_moves way zero_vector rest k first second) ≡ (opposite back, forth)
  held_case true rest k back forth none first_is second_is = sym (λ i. (opposite (first_is i), second_is i))
  held_case false rest k back forth none first_is second_is = along-none way rest k first second (inr none)
      ∙ sym (λ i. (opposite (first_is i), second_is i))

pub shared_moves : (way : Vec3) (first second : ℤ) (b : Bond) (row back forth : Row) (rest s : ℤ) (contact : Bool) → HoldsRest b rest
    → HoldsStiffness b first second s → pos 0 ≤ℤ s → b.contact ≡ contact → IsPulled way rest (pos 512) contact (vector_of row)
    → IsShare (vector_of row) s first (unsigned_abs first + unsigned_abs second) back
    → IsShare (vector_of row) s second (unsigned_abs first + unsigned_abs second) forth → IsMoved way first second b back forth
unfolding moves_by
shared_moves way first second b row back forth rest s contact r stiffness named kind pulled share other =
    let rest_is : rest ≡ b.rest = r.near (stiffness.short named) in
    let slack : Bool = b.contact && int_le b.rest (pos (length_of way)) in
    let told : vector_of row ≡ scaled (cond slack (pos 0) (pos 512)) (pos 512) (corrections way b.rest) =
    pulled.value ∙ (λ i. scaled (cond (sym kind i && int_le (rest_is i) (pos (length_of way))) (pos 0) (pos 512)) (pos 512)
    (corrections way (rest_is i))) in
    let total = unsigned_abs first + unsigned_abs second in
    record {
      back_flag = share.flag;
      forth_flag = other.flag;
      back_size = wider _ _ (2 ^ 22) (omega arith) share.size;
      forth_size = wider _ _ (2 ^ 22) (omega arith) other.size;
      moves = elim (cases_lt 0 total) [
        | inl some ↦
            let k_is : s ≡ b.k = stiffness.shared named some in
            shared_case way first second slack b.rest b.k (vector_of row) (vector_of back) (vector_of forth) pulled.apart some told
            (share.value some ∙ (λ i. shares (vector_of row) (k_is i) first total))
            (other.value some ∙ (λ i. shares (vector_of row) (k_is i) second total))
        | inr light ↦
            let none : total ≡ 0 = omega (arith, light) in
            held_case way first second slack b.rest b.k (vector_of back) (vector_of forth) none (share.none none) (other.none none)
      ];
    }
