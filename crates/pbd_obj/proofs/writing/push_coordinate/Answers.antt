use Rattle.std.proofs.Common.{◌∙◌, ◌++◌, ◌/◌, ◌%◌, ap, decimal}
use Rattle.std.proofs.lemmas.Int.{to_z-of_z}
use Rattle.pbd_obj.specs.Writing.{fraction}
use Rattle.pbd_obj.proofs.WriteLemmas.{coordinate_is}
use Rattle.pbd_obj.proofs.writing.push_coordinate.Goals as goal

pub returns-clause-bytes : goal.returns-clause-bytes
returns-clause-bytes c =
    let fit = c.ranges.u in
    let n = c.unsigned_abs-size.result in
    let sign = simp to_z-of_z at c.push_sign.ensures.bytes in
    let size = simp to_z-of_z at c.unsigned_abs-size.ensures.value in
    c.push_fraction.ensures.bytes ∙ (ap (λ t. t ++ fraction (n % 65536))
    (c.push_number.ensures.bytes ∙ ap (λ t. t ++ decimal (n / 65536)) sign) ∙ coordinate_is c.args.line.now c.args.u n size)
