use Rattle.std.proofs.Common.{w64, FitsSigned, ◌-ℤ◌, ◌∙◌, arith}
use Rattle.std.proofs.lemmas.Int.{to_z-of_z, ints}
use Rattle.pbd_num.proofs.Sizes.{size_above}
use Rattle.pbd_world.proofs.ValidLemmas.{reach_test}
use Rattle.pbd_world.proofs.single.axis_reaches_within.Goals as goal

pub returns : goal.returns
returns c =
    let limit = c.ranges.limit in
    let centre = c.ranges.centre in
    let radius = c.ranges.radius in
    let high = size_above c.args.limit in
    let low : FitsSigned w64 (c.args.radius -ℤ c.args.limit) = omega (arith, ints) in
    let top : FitsSigned w64 (c.args.limit -ℤ c.args.radius) = omega (arith, ints) in
    let is = simp to_z-of_z at c.is_between.ensures in
    is ∙ reach_test c.args.limit c.args.centre c.args.radius c.requires.low c.requires.radius
