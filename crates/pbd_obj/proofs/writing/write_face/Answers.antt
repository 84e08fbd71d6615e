use Rattle.std.proofs.Common.{codes, ◌++◌, ◌+◌}
use Rattle.std.specs.List.{flat_map}
use Rattle.std.proofs.lemmas.Result.{err_from_is_err_and}
use Rattle.pbd_io.specs.Appending.{piece_then, prefix_longer, prefix_then}
use Rattle.pbd_obj.specs.Writing.{corner_text}
use Rattle.pbd_obj.proofs.WriteLemmas.{face_line_is}
use Rattle.pbd_obj.proofs.writing.write_face.Goals as goal

pub returns-in_err-write-clause-bytes : goal.returns-in_err-write-clause-bytes
returns-in_err-write-clause-bytes g c =
    let p = err_from_is_err_and c.from_residual.result c.from_residual.ensures.1 in
    rw (p.1, face_line_is c.args.base c.args.corners.now) (prefix_longer _ _ (codes "f") _ c.in_err-write.ensures.bytes)

pub returns-in_err-write_corners-clause-bytes : goal.returns-in_err-write_corners-clause-bytes
returns-in_err-write_corners-clause-bytes g c =
    let p = err_from_is_err_and c.from_residual-in_err-write_corners.result c.from_residual-in_err-write_corners.ensures.1 in
    let corners = flat_map (λ corner. corner_text (c.args.base + corner + 1)) c.args.corners.now in
    rw (p.1, face_line_is c.args.base c.args.corners.now) (prefix_then _ _ _ (codes "f") (corners ++ codes "\n") c.in_ok-write.ensures.bytes
    (prefix_longer _ _ corners (codes "\n") c.in_err-write_corners.ensures.bytes))

pub returns-clause-bytes : goal.returns-clause-bytes
returns-clause-bytes g c =
    let corners = flat_map (λ corner. corner_text (c.args.base + corner + 1)) c.args.corners.now in
    rw (face_line_is c.args.base c.args.corners.now) (piece_then _ _ _ _ (codes "f") (corners ++ codes "\n") c.in_ok-write.ensures.bytes
    (piece_then _ _ _ _ corners (codes "\n") c.in_ok-write_corners.ensures.bytes c.write-2.ensures.bytes))
