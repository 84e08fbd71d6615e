use Rattle.std.proofs.Common.{arith, ◌^◌, ◌-ℤ◌, w64, FitsSigned}
use Rattle.std.proofs.lemmas.Int.{to_z-of_z}
use Rattle.pbd_num.proofs.Sizes.{fits, size-sub}
use Rattle.pbd_store.proofs.Flights.{kept_size}
use Rattle.pbd_store.proofs.flight.way_if.Goals as goal

pub returns-clause-size : goal.returns-clause-size
returns-clause-size c =
    let way = fits (c.args.at -ℤ c.args.before) (omega (arith, size-sub c.args.at c.args.before, c.requires.at, c.requires.before)) in
    let fa = c.ranges.at in
    let fb = c.ranges.before in
    let k : FitsSigned w64 c.kept_if.result = record { sfits = c.kept_if.type_inv } in
    let kept = simp to_z-of_z at c.kept_if.ensures in
    simp to_z-of_z (kept_size c.args.flies (c.args.at -ℤ c.args.before) c.kept_if.result (2 ^ 30) kept
    (omega (arith, size-sub c.args.at c.args.before, c.requires.at, c.requires.before)))
