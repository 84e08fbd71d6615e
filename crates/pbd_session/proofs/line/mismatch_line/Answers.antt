use Rattle.std.proofs.Common.{codes, rules, FitsSigned}
use Rattle.std.specs.Fmt.{decimal, signed_decimal}
use Rattle.std.specs.Int.{w128}
use Rattle.std.proofs.lemmas.Int.{to_z-of_z}
use Rattle.pbd_session.specs.Replaying.{field_name, mismatch_line}
use Rattle.pbd_session.proofs.Texts.{pieces9}
use Rattle.pbd_session.proofs.line.mismatch_line.Goals as goal

pub returns : goal.returns
unfolding mismatch_line
returns c =
    let compared = c.args.compared.now in
    let fr : FitsSigned w128 compared.recorded = search rules in
    let ff : FitsSigned w128 compared.found = search rules in
    let recorded = simp to_z-of_z at c.push_value.ensures.bytes in
    let found = simp to_z-of_z at c.push_value-2.ensures.bytes in
    rw (c.push.ensures, found, recorded, c.mismatch_at-line.ensures.bytes)
    (pieces9 (codes "error 10 Mismatch record ") (decimal c.args.entry) (codes " field ") (field_name compared.field) (codes " recorded ")
    (signed_decimal compared.recorded) (codes " found ") (signed_decimal compared.found) (codes "\n"))
