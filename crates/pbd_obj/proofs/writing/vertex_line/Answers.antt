use Rattle.std.proofs.Common.{arith, w64}
use Rattle.std.specs.Prelude.{FitsSigned}
use Rattle.std.proofs.lemmas.Int.{to_z-of_z}
use Rattle.pbd_num.proofs.Sizes.{fits}
use Rattle.pbd_obj.proofs.WriteLemmas.{vertex_line_is}
use Rattle.pbd_obj.proofs.writing.vertex_line.Goals as goal

pub returns : goal.returns
returns c =
    let fx : FitsSigned w64 c.args.place.x = fits c.args.place.x (omega (arith, c.requires.x)) in
    let fy : FitsSigned w64 c.args.place.y = fits c.args.place.y (omega (arith, c.requires.y)) in
    let fz : FitsSigned w64 c.args.place.z = fits c.args.place.z (omega (arith, c.requires.z)) in
    let x = simp to_z-of_z at c.push_coordinate.ensures.bytes in
    let y = simp to_z-of_z at c.push_coordinate-2.ensures.bytes in
    let z = simp to_z-of_z at c.push_coordinate-3.ensures.bytes in
    rw (c.push-4.ensures, z, c.push-3.ensures, y, c.push-2.ensures, x, c.push.ensures, c.new-line.ensures) (vertex_line_is c.args.place)
