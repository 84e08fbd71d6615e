use Rattle.std.proofs.Common.{codes, rules, FitsSigned}
use Rattle.std.specs.Fmt.{signed_decimal}
use Rattle.std.specs.Int.{w64}
use Rattle.std.proofs.lemmas.Int.{to_z-of_z}
use Rattle.pbd_world.specs.Text.{place_line}
use Rattle.pbd_session.proofs.Texts.{pieces6}
use Rattle.pbd_session.proofs.line.place_line.Goals as goal

pub returns : goal.returns
unfolding place_line
returns c =
    let at = c.args.p.now.at in
    let fx : FitsSigned w64 at.x = search rules in
    let fy : FitsSigned w64 at.y = search rules in
    let fz : FitsSigned w64 at.z = search rules in
    let x = simp to_z-of_z at c.push_signed.ensures.bytes in
    let y = simp to_z-of_z at c.push_signed-2.ensures.bytes in
    let z = simp to_z-of_z at c.push_signed-3.ensures.bytes in
    rw (c.push-3.ensures, z, c.push-2.ensures, y, c.push.ensures, x, c.new-line.ensures)
    (pieces6 (signed_decimal at.x) (codes " ") (signed_decimal at.y) (codes " ") (signed_decimal at.z) (codes "\n"))
