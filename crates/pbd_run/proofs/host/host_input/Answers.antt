use Rattle.std.proofs.Common.{◌∙◌, Ok, ap, sym}
use Rattle.pbd_run.proofs.HostingLaws.{hostable, hosted_did, hosted_many, hosted_none, hosted_stops}
use Rattle.pbd_run.proofs.host.host_input.Goals as goal

pub returns-in_default : goal.returns-in_default
returns-in_default g c = rw (hosted_none c.args.input.now (sym c.in_default.ensures.halves)) c.stop.ensures.does

pub returns-then-not-are_few : goal.returns-then-not-are_few
returns-then-not-are_few g c =
    rw (hosted_many c.args.input.now c.in-Some.text.now c.in-Some.lines.now (sym c.in-Some.ensures.halves)
    (sym c.are_few.ensures ∙ c.if-not-are_few.true)) c.stop-then-not-are_few.ensures.does

pub with_counter-requires : goal.with_counter-requires
with_counter-requires g c = record {
  ready = hostable c.args.input.now c.in-Some.text.now c.in-Some.lines.now c.deref.result.now
      (sym c.are_few.ensures ∙ c.if-not-are_few.false) (c.in-Ok.ensures.scenes ∙ ap (λ ps. Ok ps) (sym c.deref.ensures.value))
      c.in-Some.ensures.second c.requires;
}

pub returns-in-Ok : goal.returns-in-Ok
returns-in-Ok g c =
    rw c.in-Ok.ensures.unwritten at (hosted_did c.args.input.now c.in-Some.text.now c.in-Some.lines.now c.deref.result.now _ _ _ _ _
    (sym c.in-Some.ensures.halves) (sym c.are_few.ensures ∙ c.if-not-are_few.false)
    (c.in-Ok.ensures.scenes ∙ ap (λ ps. Ok ps) (sym c.deref.ensures.value)) c.with_counter.ensures)

pub returns-in-Err : goal.returns-in-Err
returns-in-Err g c =
    hosted_stops c.args.input.now c.in-Some.text.now c.in-Some.lines.now _ _ _ _ _ (sym c.in-Some.ensures.halves)
    (sym c.are_few.ensures ∙ c.if-not-are_few.false) c.in-Err.ensures.stopped
