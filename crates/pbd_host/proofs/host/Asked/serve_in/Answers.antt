use Rattle.std.proofs.Common.{◌≡◌}
use Rattle.std.proofs.lemmas.Result.{err_from_is_err_and}
use Rattle.pbd_io.specs.Appending.{appends_then, prefix_longer, prefix_then}
use Rattle.pbd_world.specs.Text.{text}
use Rattle.pbd_host.specs.Hosted.{command_text}
use Rattle.pbd_host.proofs.host.Asked.serve_in.Goals.{After-apply-reply}
use Rattle.pbd_host.proofs.host.Asked.serve_in.Goals as goal

-- what is written of the reply is what the command's text says
told : (g : _) (c : After-apply-reply g) → text c.apply-reply.new.self c.apply-reply.result
    ≡ command_text c.args.session.now c.args.self.now.command.now
told g c = λ i. text (c.apply-reply.ensures.world i) (c.apply-reply.ensures.reply i)

pub returns-in_err-write-clause-bytes : goal.returns-in_err-write-clause-bytes
returns-in_err-write-clause-bytes g c =
    let p = err_from_is_err_and c.from_residual.result c.from_residual.ensures.1 in
    rw (p.1, ← c.session_line.ensures, ← c.as_slice.ensures)
    (prefix_longer _ _ _ (command_text c.args.session.now c.args.self.now.command.now) c.in_err-write.ensures.bytes)

pub returns-in_err-write_reply-clause-bytes : goal.returns-in_err-write_reply-clause-bytes
returns-in_err-write_reply-clause-bytes g c =
    let p = err_from_is_err_and c.from_residual-in_err-write_reply.result c.from_residual-in_err-write_reply.ensures.1 in
    rw (p.1, ← c.session_line.ensures, ← c.as_slice.ensures, ← told g (goal.at.returns-in_err-write_reply-clause-bytes g c).After-apply-reply)
    (prefix_then _ _ _ _ _ c.in_ok-write.ensures.bytes c.in_err-write_reply.ensures.bytes)

pub returns-clause-bytes : goal.returns-clause-bytes
returns-clause-bytes g c =
    rw (← c.session_line.ensures, ← c.as_slice.ensures, ← told g (goal.at.returns-clause-bytes g c).After-apply-reply)
    (appends_then _ _ _ _ _ c.in_ok-write.ensures.bytes c.in_ok-write_reply.ensures.bytes)
