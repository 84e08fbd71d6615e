use Rattle.std.proofs.Common.{◌++◌, ap}
use Rattle.std.proofs.lemmas.Result.{err_from_is_err_and}
use Rattle.pbd_session.specs.Naming.{named_of}
use Rattle.pbd_session.specs.Printing.{sum_after}
use Rattle.pbd_io.specs.Appending.{failed_next}
use Rattle.pbd_session.proofs.printing.write_sums.Goals as goal

pub returns-in_err-write_line-clause-bytes : goal.returns-in_err-write_line-clause-bytes
returns-in_err-write_line-clause-bytes g c =
    let p = err_from_is_err_and c.from_residual.result c.from_residual.ensures.1 in
    let e = ap (λ t. c.args.prefix.now ++ t) c.sum_line-line.ensures in
    rw p.1 (failed_next (λ s. sum_after c.args.prefix.now (named_of s)) c.args.sums.now c.loop-sum.sum-index _ _ _ _ _
    c.loop-sum.invariant.bytes c.loop-sum-test.true e c.in_err-write_line.ensures.bytes)
