use Rattle.std.proofs.Common.{arith, ◌*ℤ◌, ◌^◌}
use Rattle.std.proofs.lemmas.Int.{to_z-of_z}
use Rattle.pbd_num.proofs.Sizes.{fits, size-mul, short_size}
use Rattle.pbd_num.proofs.tried.product.Goals as goal

pub returns-clause-value : goal.returns-clause-value
returns-clause-value c =
    let a32 = c.ranges.a in
    let b32 = c.ranges.b in
    let a_size = short_size c.args.a a32 in
    let b_size = short_size c.args.b b32 in
    let a64 = fits c.args.a (omega arith) in
    let b64 = fits c.args.b (omega arith) in
    let product = fits (c.args.a *ℤ c.args.b) (omega (arith, size-mul c.args.a c.args.b (2 ^ 31) (2 ^ 31) a_size b_size)) in
    let a_is = simp to_z-of_z at c.from.ensures in
    let b_is = simp to_z-of_z at c.from-2.ensures in
    rw (a_is, b_is) (simp to_z-of_z)

pub returns-clause-size : goal.returns-clause-size
returns-clause-size c =
    rw (returns-clause-value c)
    (omega (arith, size-mul c.args.a c.args.b (2 ^ 31) (2 ^ 31) (short_size c.args.a c.ranges.a) (short_size c.args.b c.ranges.b)))
