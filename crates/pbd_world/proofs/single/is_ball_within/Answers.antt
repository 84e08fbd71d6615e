use Rattle.std.proofs.Common.{arith, pos, ◌≤ℤ◌, ◌∙◌, ℤ, false, ◌≡◌}
use Rattle.std.specs.Prelude.{int_lt}
use Rattle.std.proofs.lemmas.Int.{to_z-of_z, ints}
use Rattle.std.proofs.lemmas.Bool.Decides.{nat_tests}
use Rattle.pbd_world.proofs.ValidLemmas.{sphere_test}
use Rattle.pbd_world.proofs.single.is_ball_within.Goals as goal

not_below : (n : ℤ) → int_lt n (pos 1) ≡ false → pos 1 ≤ℤ n
not_below n h = grind (arith, ints, nat_tests)

pub returns : goal.returns
returns c =
    let limit = c.ranges.limit in
    let radius = c.ranges.radius in
    let h = simp to_z-of_z at c.reaches_within.ensures in
    let b = simp to_z-of_z at c.if-radius-lt1.false in
    h ∙ sphere_test c.args.limit (record { centre = c.args.centre; radius = c.args.radius }) (not_below c.args.radius b)
