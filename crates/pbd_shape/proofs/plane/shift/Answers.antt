use Rattle.std.proofs.Common.{◌≡◌, arith, ℤ, w64, FitsSigned, ◌*ℤ◌, ◌^◌}
use Rattle.std.proofs.lemmas.Int.{to_z-of_z}
use Rattle.pbd_num.specs.Rounding.{rdiv}
use Rattle.pbd_num.proofs.Sizes.{fits, size-mul}
use Rattle.pbd_num.proofs.VectorSizes.{word}
use Rattle.pbd_shape.proofs.Moves.{plane_move}
use Rattle.pbd_shape.proofs.plane.shift.Goals as goal

pub overflow_mul-lack : goal.overflow_mul-lack
overflow_mul-lack c =
    let lack = c.ranges.lack in
    let axis = c.ranges.axis in
    simp to_z-of_z (fits (c.args.lack *ℤ c.args.axis) (omega
    (arith, size-mul c.args.lack c.args.axis (2 ^ 42) (2 ^ 10) c.requires.lack c.requires.axis)))

pub rdiv-requires-clause-size : goal.rdiv-requires-clause-size
rdiv-requires-clause-size c =
    let lack = c.ranges.lack in
    let axis = c.ranges.axis in
    let size = size-mul c.args.lack c.args.axis (2 ^ 42) (2 ^ 10) c.requires.lack c.requires.axis in
    let product = fits (c.args.lack *ℤ c.args.axis) (omega (arith, size)) in
    simp to_z-of_z (omega (arith, size))

-- what a quotient is of the numbers that were handed in
quotient_told : {lack axis square shift : ℤ} → FitsSigned w64 lack → FitsSigned w64 axis → FitsSigned w64 square → FitsSigned w64 shift
    → FitsSigned w64 (lack *ℤ axis) → shift ≡ rdiv (word (word lack *ℤ word axis)) (word square) → word shift ≡ rdiv (lack *ℤ axis) square
quotient_told l a q s p e = let is = simp to_z-of_z at e in simp to_z-of_z is

pub returns-clause-value : goal.returns-clause-value
returns-clause-value c = quotient_told c.ranges.lack c.ranges.axis c.ranges.square (record { sfits = c.rdiv.type_inv })
    (fits (c.args.lack *ℤ c.args.axis) (omega
    (arith, size-mul c.args.lack c.args.axis (2 ^ 42) (2 ^ 10) c.requires.lack c.requires.axis))) c.rdiv.ensures

pub returns-clause-size : goal.returns-clause-size
returns-clause-size c = rw (returns-clause-value c)
    (plane_move c.args.lack c.args.axis c.args.square c.requires.lack c.requires.axis c.requires.square)
