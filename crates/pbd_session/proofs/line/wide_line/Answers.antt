use Rattle.std.proofs.Common.{codes}
use Rattle.std.specs.Fmt.{signed_decimal}
use Rattle.std.proofs.lemmas.Int.{to_z-of_z}
use Rattle.pbd_world.specs.Text.{sum_line}
use Rattle.pbd_session.proofs.Texts.{pieces9}
use Rattle.pbd_session.proofs.line.wide_line.Goals as goal

pub returns : goal.returns
unfolding sum_line
returns c =
    let fx = c.ranges.x in
    let fy = c.ranges.y in
    let fz = c.ranges.z in
    let x = simp to_z-of_z at c.push_value.ensures.bytes in
    let y = simp to_z-of_z at c.push_value-2.ensures.bytes in
    let z = simp to_z-of_z at c.push_value-3.ensures.bytes in
    rw (c.push.ensures, z, y, x, c.ledger_line-line.ensures.bytes)
    (pieces9 (codes "ledger ") c.args.name.now (codes " ") (signed_decimal c.args.x) (codes " ") (signed_decimal c.args.y) (codes " ")
    (signed_decimal c.args.z) (codes "\n"))
