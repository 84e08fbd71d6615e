use Rattle.std.proofs.Common.{◌≡◌, ◌∷◌, arith, rules}
use Rattle.std.proofs.lemmas.Result.{err_from_is_err_and}
use Rattle.pbd_script.specs.Lines.{left_of, pieces}
use Rattle.pbd_run.proofs.HostingLaws.{counts_fit, serves_begin, serves_end, serves_failed, serves_next}
use Rattle.pbd_run.proofs.LoopLaws.{first_left, none_left, shorter}
use Rattle.pbd_run.proofs.host.serve_all.Goals as goal

-- the line of this turn, and those behind it
here : (g : _) (c : goal.After-refusals-refused g) → left_of pieces c.loop-rest.rest
    ≡ c.first_line.result.0.now ∷ left_of pieces c.first_line.result.1
here g c = first_left pieces c.loop-rest.rest c.first_line.result.1 c.in-Some.bytes c.first_line.result.0.now c.in-Some.is
    c.first_line.ensures.lines

pub loop-rest-init : goal.loop-rest-init
loop-rest-init g c = record {
  serves = serves_begin c.args.host.now (pieces c.args.lines.now) (g.K.Sink.written c.args.sink.now);
  later = search rules;
}

pub returns-in_err-served-clause-bytes : goal.returns-in_err-served-clause-bytes
returns-in_err-served-clause-bytes g c =
    let p = err_from_is_err_and c.from_residual.result c.from_residual.ensures.1 in
    let line = first_left pieces c.loop-rest.rest c.first_line.result.1 c.in-Some.bytes c.first_line.result.0.now c.in-Some.is
    c.first_line.ensures.lines in
    rw p.1 (serves_failed _ line c.loop-rest.invariant.serves c.in_err-served.ensures.bytes)

pub overflow_add-refused : goal.overflow_add-refused
overflow_add-refused g c =
    let fits = counts_fit c.args.lines.now _ c.requires.short (here g c) c.loop-rest.invariant.serves c.refusals-refused.ensures in
    omega (arith, fits)

pub loop-rest-smaller : goal.loop-rest-smaller
loop-rest-smaller g c = shorter _ _ _ (here g c)

pub loop-rest-preserved : goal.loop-rest-preserved
loop-rest-preserved g c = record {
  serves = serves_next (here g c) c.loop-rest.invariant.serves c.serve_line.ensures.worlds c.in_ok-served.ensures.bytes
      c.in_ok-served.ensures.served c.refusals-refused.ensures;
  later = omega (arith, c.loop-rest.invariant.later, c.serve_line.ensures.cause);
}

pub returns-clause-bytes : goal.returns-clause-bytes
returns-clause-bytes g c = (serves_end (none_left pieces c.loop-rest.rest c.in_default.not-Some) c.loop-rest.invariant.serves).bytes

pub returns-clause-refused : goal.returns-clause-refused
returns-clause-refused g c = (serves_end (none_left pieces c.loop-rest.rest c.in_default.not-Some) c.loop-rest.invariant.serves).count
