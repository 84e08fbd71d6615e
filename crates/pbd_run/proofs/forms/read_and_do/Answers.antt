use Rattle.std.proofs.Common.{ap, Err}
use Rattle.pbd_run.specs.Calls.{IsOne, limit_of}
use Rattle.pbd_run.proofs.RunLaws.{forms, read_whole, read_ended_at}
use Rattle.pbd_run.proofs.forms.read_and_do.Goals as goal

pub returns-in-Ok : goal.returns-in-Ok
returns-in-Ok g c = read_whole c.args.job (limit_of c.args.job) (IsOne c.args.job) _ _ c.in-Ok.input.items _
    (forms c.args.job c.requires.reads) (rw c.limit_of.ensures.value at c.in-Ok.ensures.bytes)
    (rw c.deref.ensures.value at c.on_input.ensures)

pub returns-in-Err : goal.returns-in-Err
returns-in-Err g c = read_ended_at c.args.job (limit_of c.args.job) c.limit_of.result
    (IsOne c.args.job) _ _ c.in-Err.end _ c.limit_of.ensures.value (forms c.args.job c.requires.reads) c.in-Err.ensures.bytes
    (λ e. c.in-Err.ensures.cause (ap (λ x. Err x) e)) c.stop_reading.ensures
