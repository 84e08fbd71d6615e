use Rattle.std.proofs.Common.{arith, rules}
use Rattle.std.specs.Prelude.{OnErr}
use Rattle.std.specs.List.{Contains}
use Rattle.std.proofs.lemmas.Result.{err_from_is_err_and}
use Rattle.pbd_io.specs.Pieces.{WritesPiece}
use Rattle.pbd_script.specs.Commands.{commands}
use Rattle.pbd_world.specs.Session.{session_text, worlds}
use Rattle.pbd_session.proofs.Running.{Does, Ended, one_fewer, can_count, ran_begins, ran_next, ran_failed, ran_ends}
use Rattle.pbd_session.proofs.Paying.{paid_next}
use Rattle.pbd_session.proofs.script.run_script.Goals.{After-apply-reply, After-from_residual, In_default}
use Rattle.pbd_session.proofs.script.run_script.Goals as goal

-- a command was done and answered
did : (g : _) (c : After-apply-reply g) → Does c.loop-command.session c.apply-reply.new.self c.in-Some.command c.apply-reply.result
did g c = record { world = c.apply-reply.ensures.world; reply = c.apply-reply.ensures.reply }

-- its reply could not be written
failed : (g : _) (c : After-from_residual g) → WritesPiece (g.K.Sink.written c.args.sink.now) (g.K.Sink.written c.write_reply.new.sink)
    c.from_residual.result (session_text c.args.session.now (commands c.args.script.now))
    × OnErr c.from_residual.result (Contains (worlds c.args.session.now (commands c.args.script.now)) c.apply-reply.new.self)
failed g c =
    let p = err_from_is_err_and c.from_residual.result c.from_residual.ensures.1 in
    let does : Does c.loop-command.session c.apply-reply.new.self c.in-Some.command c.apply-reply.result =
    record { world = c.apply-reply.ensures.world; reply = c.apply-reply.ensures.reply } in
    let stands = ran_failed c.loop-command.invariant.ran c.in-Some.ensures does c.in_err-write_reply.ensures.bytes in
    rw (p.1, ← c.new-script.ensures.all) (stands.bytes, stands.one_of)

-- all commands were done
ended : (g : _) (c : In_default g) → Ended c.args.session.now (commands c.args.script.now) c.loop-command.session
    (g.K.Sink.written c.args.sink.now) (g.K.Sink.written c.loop-command.sink) c.loop-command.refused
ended g c = rw (← c.new-script.ensures.all) (ran_ends c.loop-command.invariant.ran c.in_default.ensures.0)

pub loop-command-init : goal.loop-command-init
loop-command-init g c = record {
  ran = ran_begins c.args.session.now c.new-script.result (g.K.Sink.written c.args.sink.now);
  spent = λ lanes some all. omega arith;
  later = search rules;
}

pub loop-command-preserved : goal.loop-command-preserved
loop-command-preserved g c =
    let does = did g (goal.at.loop-command-preserved g c).After-apply-reply in
    record {
      ran = rw c.refusals-refused.ensures (ran_next c.loop-command.invariant.ran c.in-Some.ensures does
          c.in_ok-write_reply.ensures.bytes);
      spent = λ lanes some all. paid_next g.row.L lanes _ c.in-Some.ensures does
          (c.loop-command.invariant.spent lanes some all) (c.apply-reply.ensures.cost lanes some all) c.write_reply.ensures.cost;
      later = omega (arith, c.loop-command.invariant.later, c.write_reply.ensures.cause);
    }

pub returns-in_err-write_reply-clause-bytes : goal.returns-in_err-write_reply-clause-bytes
returns-in_err-write_reply-clause-bytes g c = (failed g (goal.at.returns-in_err-write_reply-clause-bytes g c).After-from_residual).0

pub returns-in_err-write_reply-clause-one_of : goal.returns-in_err-write_reply-clause-one_of
returns-in_err-write_reply-clause-one_of g c = (failed g (goal.at.returns-in_err-write_reply-clause-one_of g c).After-from_residual).1

pub returns-clause-bytes : goal.returns-clause-bytes
returns-clause-bytes g c = (ended g (goal.at.returns-clause-bytes g c).In_default).bytes

pub returns-clause-refused : goal.returns-clause-refused
returns-clause-refused g c = (ended g (goal.at.returns-clause-refused g c).In_default).count

pub returns-clause-world : goal.returns-clause-world
returns-clause-world g c = (ended g (goal.at.returns-clause-world g c).In_default).world

pub returns-in_err-write_reply-clause-cost : goal.returns-in_err-write_reply-clause-cost
returns-in_err-write_reply-clause-cost g c = λ lanes some all.
    let does = did g (goal.at.returns-in_err-write_reply-clause-cost g c).After-apply-reply in
    let paid = paid_next g.row.L lanes _ c.in-Some.ensures does (c.loop-command.invariant.spent lanes some all)
    (c.apply-reply.ensures.cost lanes some all) c.write_reply.ensures.cost in
    rw (← c.new-script.ensures.all) (omega (arith, paid))

pub returns-clause-cost : goal.returns-clause-cost
returns-clause-cost g c = λ lanes some all. rw (← c.new-script.ensures.all) (omega (arith, c.loop-command.invariant.spent lanes some all))

pub overflow_add-refused : goal.overflow_add-refused
overflow_add-refused g c = record {
  fits = can_count c.apply-reply.result _ c.loop-command.invariant.ran.counted
      (omega (arith, c.new-script.ensures.few, c.requires.script)) c.refusals-refused.ensures;
}

pub loop-command-smaller : goal.loop-command-smaller
loop-command-smaller g c = one_fewer _ _ _ c.in-Some.ensures
