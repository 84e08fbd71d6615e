use Rattle.std.proofs.lemmas.Result.{err_from_is_err_and}
use Rattle.pbd_io.specs.Appending.{appends_then, prefix_longer, prefix_then}
use Rattle.pbd_host.specs.Hosted.{bad_tag_text}
use Rattle.pbd_host.proofs.host.write_bad_tag.Goals as goal

pub returns-in_err-write-clause-bytes : goal.returns-in_err-write-clause-bytes
unfolding bad_tag_text
returns-in_err-write-clause-bytes g c =
    let p = err_from_is_err_and c.from_residual.result c.from_residual.ensures.1 in
    rw p.1 (prefix_longer _ _ _ _ c.in_err-write.ensures.bytes)

pub returns-in_err-write-2-clause-bytes : goal.returns-in_err-write-2-clause-bytes
unfolding bad_tag_text
returns-in_err-write-2-clause-bytes g c =
    let p = err_from_is_err_and c.from_residual-in_err-write-2.result c.from_residual-in_err-write-2.ensures.1 in
    rw p.1 (prefix_then _ _ _ _ _ c.in_ok-write.ensures.bytes c.in_err-write-2.ensures.bytes)

pub returns-clause-bytes : goal.returns-clause-bytes
unfolding bad_tag_text
returns-clause-bytes g c = appends_then _ _ _ _ _ c.in_ok-write.ensures.bytes c.in_ok-write-2.ensures.bytes
