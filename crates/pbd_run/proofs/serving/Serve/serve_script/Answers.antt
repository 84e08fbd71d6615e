use Rattle.std.proofs.Common.{arith, rules}
use Rattle.std.proofs.lemmas.Result.{err_from_is_err_and}
use Rattle.pbd_run.proofs.Served.{served_at_first, served_in_part, served_next, served_refusals_fit, served_to_end}
use Rattle.pbd_run.proofs.serving.Serve.serve_script.Goals as goal

pub loop-command-init : goal.loop-command-init
loop-command-init g c = record {
  served = served_at_first c.args.state.now c.new-script.result (g.K.Sink.written c.args.sink.now);
  later = search rules;
}

pub loop-command-preserved : goal.loop-command-preserved
loop-command-preserved g c = record {
  served = served_next c.loop-command.invariant.served c.in-Some.ensures c.serve.ensures.state c.in_ok-refused.ensures.bytes
      c.in_ok-refused.ensures.refused;
  later = omega (arith, c.loop-command.invariant.later, c.serve.ensures.cause);
}

pub returns-in_err-refused-clause-bytes : goal.returns-in_err-refused-clause-bytes
returns-in_err-refused-clause-bytes g c =
    let p = err_from_is_err_and c.from_residual.result c.from_residual.ensures.1 in
    rw (p.1, ← c.new-script.ensures.all) (served_in_part _ c.loop-command.invariant.served c.in-Some.ensures
    c.in_err-refused.ensures.bytes)

pub returns-clause-bytes : goal.returns-clause-bytes
returns-clause-bytes g c = rw (← c.new-script.ensures.all) ((served_to_end c.loop-command.invariant.served c.in_default.ensures.0).0)

pub returns-clause-refused : goal.returns-clause-refused
returns-clause-refused g c = rw (← c.new-script.ensures.all) ((served_to_end c.loop-command.invariant.served c.in_default.ensures.0).1)

pub overflow_add-refused : goal.overflow_add-refused
overflow_add-refused g c = record {
  fits = served_refusals_fit _ _ c.loop-command.invariant.served c.new-script.ensures.few c.requires.script
      c.in_ok-refused.ensures.refused;
}
