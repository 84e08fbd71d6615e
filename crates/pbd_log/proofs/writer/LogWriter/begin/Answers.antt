use Rattle.std.proofs.Common.{length, ap, subst, ◌∙◌}
use Rattle.std.proofs.Math.Facts.{to_z-of_z}
use Rattle.std.proofs.lemmas.Result.{err_from_is_err_and}
use Rattle.pbd_io.specs.Pieces.{AppendsPrefix}
use Rattle.pbd_io.specs.Appending.{prefix_longer, prefix_then}
use Rattle.std.specs.Io.KnownBytes.{Appends}
use Rattle.pbd_log.specs.Logs.{header_bytes}
use Rattle.pbd_log.proofs.writer.LogWriter.begin.Goals as goal

pub returns-in_err-write-clause-bytes : goal.returns-in_err-write-clause-bytes
returns-in_err-write-clause-bytes g c =
    let p = err_from_is_err_and c.from_residual.result c.from_residual.ensures.1 in
    let header = header_bytes 2 c.args.limit (length c.args.scene.now) in
    let front = subst (λ t. AppendsPrefix (g.K.Sink.written c.args.sink.now) (g.K.Sink.written c.write.new.self) t)
    (c.as_slice.ensures ∙ c.push_header.ensures ∙ ap (λ l. header_bytes 2 l (length c.args.scene.now)) (to_z-of_z c.ranges.limit))
    c.in_err-write.ensures.bytes in
    rw p.1 (prefix_longer (g.K.Sink.written c.args.sink.now) (g.K.Sink.written c.write.new.self) header c.args.scene.now front)

pub returns-in_err-write-2-clause-bytes : goal.returns-in_err-write-2-clause-bytes
returns-in_err-write-2-clause-bytes g c =
    let p = err_from_is_err_and c.from_residual-in_err-write-2.result c.from_residual-in_err-write-2.ensures.1 in
    let header = header_bytes 2 c.args.limit (length c.args.scene.now) in
    let whole = subst (λ t. Appends (g.K.Sink.written c.args.sink.now) (g.K.Sink.written c.write.new.self) t)
    (c.as_slice.ensures ∙ c.push_header.ensures ∙ ap (λ l. header_bytes 2 l (length c.args.scene.now)) (to_z-of_z c.ranges.limit))
    c.in_ok-write.ensures.bytes in
    rw p.1 (prefix_then (g.K.Sink.written c.args.sink.now) (g.K.Sink.written c.write.new.self)
    (g.K.Sink.written c.write-then-not-is_empty.new.self) header c.args.scene.now whole c.in_err-write-2.ensures.bytes)
