use Rattle.std.proofs.Common.{◌≡◌, ◌∙◌, ◌∷◌, sym, arith, rules, ap}
use Rattle.std.proofs.lemmas.Result.{err_from_is_err_and}
use Rattle.pbd_log.specs.Logs.{Log}
use Rattle.pbd_session.specs.Replaying.{difference, found_now}
use Rattle.pbd_session.proofs.Running.{Does, one_more}
use Rattle.pbd_session.proofs.Recorded.{is_entry}
use Rattle.pbd_session.proofs.Replays.{agreed_begins, agreed_next, agreed_failed, agreed_ends, differs_piece, does_one_of, differs_ended}
use Rattle.pbd_session.proofs.Replays.{differs_world, all_countable}
use Rattle.pbd_session.proofs.replay.run_replay.Goals.{After-entry-found}
use Rattle.pbd_session.proofs.replay.run_replay.Goals as goal

-- what is known of an entry once its command was applied
applied : (g : _) (c : After-entry-found g) → record {
  next : c.loop-entry.view.entries ≡ c.in-Some.entry ∷ c.next.new.self.entries;
  does : Does c.loop-entry.session c.apply-reply.new.self c.in-Some.entry.command c.apply-reply.result;
  found : difference c.in-Some.entry (found_now c.loop-entry.session c.in-Some.entry) ≡ difference c.in-Some.entry c.entry-found.result;
}
applied g c =
    let does : Does c.loop-entry.session c.apply-reply.new.self c.in-Some.entry.command c.apply-reply.result =
    record { world = c.apply-reply.ensures.world; reply = c.apply-reply.ensures.reply } in
    record {
      next = ap (λ (l : Log). l.entries) c.in-Some.ensures.next;
      does = does;
      found = ap (difference c.in-Some.entry) (sym (is_entry _ _ _ _ _ does c.entry-found.ensures));
    }

pub loop-entry-init : goal.loop-entry-init
loop-entry-init g c = record {
  agreed = agreed_begins c.args.session.now c.args.view.entries (g.K.Sink.written c.args.sink.now);
  countable = λ l. absurd (omega (arith, l));
  later = search rules;
}

pub returns-in-Some-difference : goal.returns-in-Some-difference
returns-in-Some-difference g c =
    let agreed = c.loop-entry.invariant.agreed in
    let entry = applied g (goal.at.returns-in-Some-difference g c).After-entry-found in
    let other = entry.found ∙ sym c.in-Some-difference.ensures in
    record {
      bytes = differs_piece _ c.write_mismatch.result agreed entry.next other c.write_mismatch.ensures.bytes;
      ended = rw (← differs_ended agreed entry.next other) c.write_mismatch.ensures.ended;
      world = differs_world c.write_mismatch.result agreed entry.next entry.does other;
      one_of = does_one_of agreed entry.next entry.does;
      cause = search rules;
    }

-- a reply could not be written
pub returns-in_err-write_reply-clause-bytes : goal.returns-in_err-write_reply-clause-bytes
returns-in_err-write_reply-clause-bytes g c =
    let entry = applied g (goal.at.returns-in_err-write_reply-clause-bytes g c).After-entry-found in
    let p = err_from_is_err_and c.from_residual.result c.from_residual.ensures.1 in
    rw p.1 (agreed_failed _ c.loop-entry.invariant.agreed entry.next entry.does (entry.found ∙ sym c.in_default-difference.ensures)
    c.in_err-write_reply.ensures.bytes)

pub returns-in_err-write_reply-clause-one_of : goal.returns-in_err-write_reply-clause-one_of
returns-in_err-write_reply-clause-one_of g c =
    let entry = applied g (goal.at.returns-in_err-write_reply-clause-one_of g c).After-entry-found in
    does_one_of c.loop-entry.invariant.agreed entry.next entry.does

pub overflow_add-number : goal.overflow_add-number
overflow_add-number g c =
    let agreed = c.loop-entry.invariant.agreed in
    record { fits = omega (arith, agreed.numbers, all_countable agreed c.loop-entry.invariant.countable c.in-Some.ensures.few) }

pub loop-entry-preserved : goal.loop-entry-preserved
loop-entry-preserved g c =
    let entry = applied g (goal.at.loop-entry-preserved g c).After-entry-found in
    record {
      agreed = rw c.refusals-refused.ensures (agreed_next c.loop-entry.invariant.agreed entry.next entry.does
          (entry.found ∙ sym c.in_default-difference.ensures) c.in_ok-write_reply.ensures.bytes);
      countable = λ l. all_countable c.loop-entry.invariant.agreed c.loop-entry.invariant.countable c.in-Some.ensures.few;
      later = omega (arith, c.loop-entry.invariant.later, c.write_reply.ensures.cause);
    }

pub returns : goal.returns
returns g c =
    let ended = agreed_ends c.loop-entry.invariant.agreed c.in_default.ensures.ended in
    record { bytes = ended.bytes; ended = ended.ended; world = ended.world; one_of = ended.one_of; cause = search rules }

pub overflow_add-refused : goal.overflow_add-refused
overflow_add-refused g c =
    let agreed = c.loop-entry.invariant.agreed in
    let all = all_countable agreed c.loop-entry.invariant.countable c.in-Some.ensures.few in
    record { fits = omega (arith, agreed.few, agreed.numbers, all, c.refusals-refused.ensures, one_more c.apply-reply.result) }
