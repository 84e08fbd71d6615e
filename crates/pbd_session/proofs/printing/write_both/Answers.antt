use Rattle.std.proofs.lemmas.Result.{err_from_is_err_and}
use Rattle.pbd_io.specs.Appending.{piece_then, prefix_longer}
use Rattle.pbd_session.proofs.printing.write_both.Goals as goal

pub returns-in_err-write-clause-bytes : goal.returns-in_err-write-clause-bytes
returns-in_err-write-clause-bytes g c =
    let p = err_from_is_err_and c.from_residual.result c.from_residual.ensures.1 in
    rw p.1 (prefix_longer _ _ c.args.prefix.now c.args.line.now c.in_err-write.ensures.bytes)

pub returns-clause-bytes : goal.returns-clause-bytes
returns-clause-bytes g c =
    rw (← c.as_slice-2.ensures) (piece_then _ _ _ c.write-3.result c.args.prefix.now c.as_slice-2.result.now c.in_ok-write.ensures.bytes
    c.write-3.ensures.bytes)
