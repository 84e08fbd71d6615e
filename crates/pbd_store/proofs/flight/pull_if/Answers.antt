use Rattle.std.proofs.Common.{◌^◌, w64, FitsSigned}
use Rattle.std.proofs.lemmas.Int.{to_z-of_z}
use Rattle.pbd_store.proofs.Flights.{kept_size}
use Rattle.pbd_store.proofs.flight.pull_if.Goals as goal

pub returns-clause-size : goal.returns-clause-size
returns-clause-size c =
    let g = c.ranges.gravity in
    let k : FitsSigned w64 c.kept_if.result = record { sfits = c.kept_if.type_inv } in
    let kept = simp to_z-of_z at c.kept_if.ensures in
    simp to_z-of_z (kept_size c.args.flies c.args.gravity c.kept_if.result (2 ^ 29) kept c.requires)
