use Rattle.std.proofs.Common.{arith, ◌^◌}
use Rattle.std.proofs.lemmas.Int.{ints}
use Rattle.pbd_num.proofs.Sizes.{fits, size-add, size-mul, size-sub}
use Rattle.pbd_lanes.specs.Lane.{lane}
use Rattle.pbd_tests_numbers.proofs.tests.lanes.see.Goals as goal

pub mul-requires : goal.mul-requires
mul-requires g c = (
  omega (arith, c.requires.lanes),
  λ j p.
      fits _ (omega (arith, size-mul (lane c.args.x.now j) (lane c.args.y.now j) (2 ^ 29) (2 ^ 29) (c.requires.x j p) (c.requires.y j p))),
)

pub add-requires : goal.add-requires
add-requires g c = (
  omega (arith, c.requires.lanes),
  λ j p.
      fits _ (omega (arith, size-add (lane c.args.x.now j) (lane c.args.y.now j), c.requires.x j p, c.requires.y j p)),
)

pub sub-requires : goal.sub-requires
sub-requires g c = (
  omega (arith, c.requires.lanes),
  λ j p.
      fits _ (omega (arith, size-sub (lane c.args.x.now j) (lane c.args.y.now j), c.requires.x j p, c.requires.y j p)),
)

pub rdiv_lanes-requires : goal.rdiv_lanes-requires
rdiv_lanes-requires g c = (
  omega (arith, c.requires.lanes),
  (
    omega (arith, c.requires.lanes),
    (
      λ j p _. c.requires.above j p,
      (λ j p _. omega (arith, c.requires.y j p), λ j p _. omega (arith, c.requires.x j p)),
    ),
  ),
)

pub root_lanes-requires : goal.root_lanes-requires
root_lanes-requires g c = (
  omega (arith, c.requires.lanes),
  (omega (arith, c.requires.lanes), λ j p _. omega (arith, ints, c.requires.above j p)),
)
