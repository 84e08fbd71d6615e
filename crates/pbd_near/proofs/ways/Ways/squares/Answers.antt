use Rattle.std.proofs.Common.{arith, w32}
use Rattle.std.proofs.lemmas.Int.{to_z-of_z, fits_signed_from_abs}
use Rattle.pbd_near.proofs.Rows.{holds_more}
use Rattle.pbd_near.proofs.ways.Ways.squares.Goals as goal

pub loop-j-preserved : goal.loop-j-preserved
loop-j-preserved c =
    let taken = c.taken_of-taken.ensures in
    let x = fits_signed_from_abs w32 c.taken_of-taken.result.x (omega (arith, taken.x)) in
    let y = fits_signed_from_abs w32 c.taken_of-taken.result.y (omega (arith, taken.y)) in
    let z = fits_signed_from_abs w32 c.taken_of-taken.result.z (omega (arith, taken.z)) in
    simp to_z-of_z (holds_more c.loop-j.j c.args.ways.now c.loop-j.self c.taken_of-taken.result
    (omega arith) taken.value c.loop-j.invariant)
