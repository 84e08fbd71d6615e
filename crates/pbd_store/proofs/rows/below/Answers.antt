use Rattle.std.proofs.Common.{negsuc, ◌-ℤ◌, w64, FitsSigned}
use Rattle.std.proofs.lemmas.Int.{to_z-of_z}
use Rattle.pbd_store.proofs.InRows.{below_size, below_fits}
use Rattle.pbd_store.proofs.rows.below.Goals as goal

pub returns-clause-value : goal.returns-clause-value
returns-clause-value c =
    let axis = c.ranges.axis in
    let size : FitsSigned w64 (negsuc 0 -ℤ c.args.axis) = below_fits c.args.axis axis c.requires in
    simp to_z-of_z (below_size c.args.axis c.requires)
