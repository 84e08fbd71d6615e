use Rattle.std.proofs.Common.{arith, ◌*ℤ◌, w64, FitsSigned}
use Rattle.std.proofs.lemmas.Int.{to_z-of_z}
use Rattle.pbd_num.proofs.Sizes.{fits}
use Rattle.pbd_num.proofs.VectorSizes.{scaled_axis_fits, scaled_axis_size}
use Rattle.pbd_num.proofs.vectors.scaled_axis.Goals as goal

pub overflow_mul-axis : goal.overflow_mul-axis
overflow_mul-axis c =
    let axis = c.ranges.axis in
    let part = c.ranges.part in
    simp to_z-of_z (fits (c.args.axis *ℤ c.args.part) (omega (arith, c.requires.product)))

pub rdiv-requires-clause-size : goal.rdiv-requires-clause-size
rdiv-requires-clause-size c =
    let axis = c.ranges.axis in
    let part = c.ranges.part in
    let product = fits (c.args.axis *ℤ c.args.part) (omega (arith, c.requires.product)) in
    simp to_z-of_z c.requires.product

pub returns-clause-value : goal.returns-clause-value
returns-clause-value c =
    let axis = c.ranges.axis in
    let part = c.ranges.part in
    let whole = c.ranges.whole in
    let quotient : FitsSigned w64 c.rdiv.result = record { sfits = c.rdiv.type_inv } in
    let product = fits (c.args.axis *ℤ c.args.part) (omega (arith, c.requires.product)) in
    let h = simp to_z-of_z at c.rdiv.ensures in
    simp to_z-of_z h

pub returns-clause-fits : goal.returns-clause-fits
returns-clause-fits c = rw (returns-clause-value c)
    (scaled_axis_fits c.args.axis c.args.part c.args.whole c.requires.whole_low c.requires.product)

pub returns-clause-size : goal.returns-clause-size
returns-clause-size c = λ n less h.
    rw (returns-clause-value c) (scaled_axis_size c.args.axis c.args.part c.args.whole n c.requires.whole_low less h)
