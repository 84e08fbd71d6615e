use Rattle.std.proofs.Common.{◌∙◌, ◌+◌}
use Rattle.std.proofs.lemmas.Result.{err_from_is_err_and}
use Rattle.pbd_obj.specs.Writing.{corner_text}
use Rattle.pbd_io.specs.Appending.{failed_next}
use Rattle.pbd_obj.proofs.writing.write_corners.Goals as goal

pub returns-in_err-write-clause-bytes : goal.returns-in_err-write-clause-bytes
returns-in_err-write-clause-bytes g c =
    let p = err_from_is_err_and c.from_residual.result c.from_residual.ensures.1 in
    let e = c.as_slice.ensures ∙ c.corner_text.ensures in
    rw p.1 (failed_next (λ corner. corner_text (c.args.base + corner + 1)) c.args.corners.now c.loop-corner.corner-index 0 _ _ _ _
    c.loop-corner.invariant.bytes c.loop-corner-test.true e c.in_err-write.ensures.bytes)
