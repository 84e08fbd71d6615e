use Rattle.std.proofs.Common.{◌≡◌, arith, ℤ, w64, FitsSigned, ◌+ℤ◌, ◌*ℤ◌, ap}
use Rattle.std.proofs.lemmas.Int.{to_z-of_z}
use Rattle.pbd_num.specs.Rounding.{rdiv}
use Rattle.pbd_num.proofs.Sizes.{fits, size-add}
use Rattle.pbd_num.proofs.VectorSizes.{word, sum_fits}
use Rattle.pbd_shape.proofs.plane.axis_out.Goals as goal

-- where an axis comes to, by the numbers that were handed in
moved_told : {from lack axis square shift : ℤ} → FitsSigned w64 from → FitsSigned w64 lack → FitsSigned w64 axis → FitsSigned w64 square
    → FitsSigned w64 shift → FitsSigned w64 (from +ℤ shift) → shift ≡ rdiv (word lack *ℤ word axis) (word square)
    → word (word from +ℤ word shift) ≡ from +ℤ rdiv (lack *ℤ axis) square
moved_told {from} f l a q s fit e =
    let is = simp to_z-of_z at e in
    simp to_z-of_z (ap (λ (m : ℤ). from +ℤ m) is)

pub overflow_add-result : goal.overflow_add-result
overflow_add-result c = sum_fits c.args.from c.shift.result (omega (arith, c.requires.from)) (omega (arith, c.shift.ensures.size))

pub returns : goal.returns
returns c = moved_told c.ranges.from c.ranges.lack c.ranges.axis c.ranges.square (record { sfits = c.shift.type_inv })
    (fits (c.args.from +ℤ c.shift.result) (omega
    (arith, size-add c.args.from c.shift.result, c.requires.from, c.shift.ensures.size))) c.shift.ensures.value
