use Rattle.std.proofs.Common.{◌≡◌, ◌<◌, ◌∙◌, ◌^◌, arith, pos, ◌+ℤ◌, ◌*◌, to_z, w64}
use Rattle.std.proofs.lemmas.Int.{ints}
use Rattle.pbd_num.proofs.Sizes.{fits, size_above, size_below}
use Rattle.pbd_store.proofs.Axes.{raised_is, product_size}
use Rattle.pbd_store.proofs.flight.product_of_raised.Goals as goal
use Rattle.pbd_store.proofs.flight.product_of_raised.Goals.{After-from-2}

-- the factors as they are raised
first : (c : After-from-2) → pos c.from.result ≡ c.args.s +ℤ pos 2147483648
first c = omega (arith, ints, c.from.ensures, c.requires.s, size_above c.args.s, size_below c.args.s)

second : (c : After-from-2) → pos c.from-2.result ≡ c.args.f +ℤ pos 1024
second c = omega (arith, ints, c.from-2.ensures, c.requires.f, size_above c.args.f, size_below c.args.f)

size : (c : After-from-2) → c.from.result * c.from-2.result < 2 ^ 45
size c = product_size c.from.result c.from-2.result (omega (arith, ints, first c, c.requires.s, size_above c.args.s))
    (omega (arith, ints, second c, c.requires.f, size_above c.args.f))

pub overflow_cast-result : goal.overflow_cast-result
overflow_cast-result c = fits (pos (c.from.result * c.from-2.result)) (omega (arith, size c))

pub returns-clause-value : goal.returns-clause-value
returns-clause-value c =
    let few = size c in
    let whole : to_z w64 (c.from.result * c.from-2.result) ≡ pos (c.from.result * c.from-2.result) = omega (arith, ints, few) in
    whole ∙ raised_is c.args.s c.args.f c.from.result c.from-2.result (first c) (second c)

pub returns-clause-size : goal.returns-clause-size
returns-clause-size c = omega (arith, ints, size c)
