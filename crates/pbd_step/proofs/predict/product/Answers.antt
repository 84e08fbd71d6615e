use Rattle.std.proofs.Common.{◌^◌, ◌*ℤ◌, arith}
use Rattle.std.proofs.lemmas.Int.{to_z-of_z}
use Rattle.pbd_num.proofs.Sizes.{fits, size-mul}
use Rattle.pbd_step.proofs.predict.product.Goals as goal

pub returns-clause-value : goal.returns-clause-value
returns-clause-value c =
    let g = fits c.args.g (omega (arith, c.requires.g)) in
    let n = fits c.args.n (omega (arith, c.requires.n)) in
    let both = fits (c.args.g *ℤ c.args.n) (omega (arith, size-mul c.args.g c.args.n (2 ^ 29) 65536 c.requires.g c.requires.n)) in
    simp to_z-of_z

pub returns-clause-size : goal.returns-clause-size
returns-clause-size c =
    rw (returns-clause-value c) (omega (arith, size-mul c.args.g c.args.n (2 ^ 29) 65536 c.requires.g c.requires.n))
