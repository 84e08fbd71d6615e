use Rattle.std.proofs.Common.{◌≡◌, ◌<◌, ◌^◌, arith, rules, length}
use Rattle.std.specs.Prelude.{OnErr}
use Rattle.std.specs.List.{Contains}
use Rattle.std.proofs.lemmas.Result.{err_from_is_err_and}
use Rattle.pbd_io.specs.Pieces.{WritesPiece}
use Rattle.pbd_log.specs.Entries.{entry_of}
use Rattle.pbd_script.specs.Commands.{commands}
use Rattle.pbd_world.specs.Replay.{entry}
use Rattle.pbd_world.specs.Session.{worlds}
use Rattle.pbd_session.specs.Recording.{entries_of, log_bytes}
use Rattle.pbd_session.proofs.Comparing.{alike}
use Rattle.pbd_session.proofs.Running.{Does, one_fewer, can_count}
use Rattle.pbd_session.proofs.Recorded.{logged_begins, logged_next, begin_failed, logged_failed, finish_failed, logged_ends}
use Rattle.pbd_session.proofs.Recorded.{is_entry, is_grammatical, has_room}
use Rattle.pbd_session.proofs.record.run_record.Goals.{After-apply-reply, After-entry-entry, After-from_residual-in_err-append}
use Rattle.pbd_session.proofs.record.run_record.Goals as goal

-- a command was done and answered
did : (g : _) (c : After-apply-reply g) → Does c.loop-command.session c.apply-reply.new.self c.in-Some.command c.apply-reply.result
did g c = record { world = c.apply-reply.ensures.world; reply = c.apply-reply.ensures.reply }

-- and its entry is that of the command
kept : (g : _) (c : After-entry-entry g)
    → c.entry-entry.result ≡ entry_of (entry c.loop-command.session c.in-Some.command)
kept g c =
    let does : Does c.loop-command.session c.apply-reply.new.self c.in-Some.command c.apply-reply.result =
    record { world = c.apply-reply.ensures.world; reply = c.apply-reply.ensures.reply } in
    is_entry _ _ _ _ _ does c.entry-entry.ensures

-- what stands where the sink failed at an entry
entry_fails : (g : _) (c : After-from_residual-in_err-append g) → WritesPiece (g.K.Sink.written c.args.sink.now)
    (g.K.Sink.written c.append.new.sink) c.from_residual-in_err-append.result
    (log_bytes c.args.session.now.limit c.args.scene.now (entries_of c.args.session.now (commands c.args.script.now)))
    × OnErr c.from_residual-in_err-append.result (Contains (worlds c.args.session.now (commands c.args.script.now)) c.apply-reply.new.self)
entry_fails g c =
    let p = err_from_is_err_and c.from_residual-in_err-append.result c.from_residual-in_err-append.ensures.1 in
    let does : Does c.loop-command.session c.apply-reply.new.self c.in-Some.command c.apply-reply.result =
    record { world = c.apply-reply.ensures.world; reply = c.apply-reply.ensures.reply } in
    let stands = logged_failed c.loop-command.invariant.logged c.in-Some.ensures does
    (is_entry _ _ _ _ _ does c.entry-entry.ensures) c.in_err-append.ensures.bytes in
    rw (p.1, ← c.new-script.ensures.all) (stands.bytes, stands.one_of)

pub returns-in_err-writer-clause-bytes : goal.returns-in_err-writer-clause-bytes
returns-in_err-writer-clause-bytes g c =
    let p = err_from_is_err_and c.from_residual.result c.from_residual.ensures.1 in
    rw (p.1, ← c.new-script.ensures.all) ((begin_failed c.args.session.now c.new-script.result c.args.session.now.limit c.args.scene.now _ _
    c.in_err-writer.ensures.bytes).bytes)

pub returns-in_err-writer-clause-one_of : goal.returns-in_err-writer-clause-one_of
returns-in_err-writer-clause-one_of g c =
    let p = err_from_is_err_and c.from_residual.result c.from_residual.ensures.1 in
    rw (p.1, ← c.new-script.ensures.all) ((begin_failed c.args.session.now c.new-script.result c.args.session.now.limit c.args.scene.now _ _
    c.in_err-writer.ensures.bytes).one_of)

pub loop-command-init : goal.loop-command-init
loop-command-init g c = record {
  logged = rw c.in_ok-writer.ensures.entries (logged_begins c.args.session.now c.new-script.result c.args.session.now.limit c.args.scene.now
      _ _ c.in_ok-writer.ensures.bytes);
  later = search rules;
}

pub append-requires-clause-grammar : goal.append-requires-clause-grammar
append-requires-clause-grammar g c = is_grammatical c.loop-command.session c.in-Some.command c.entry-entry.result
    (kept g (goal.at.append-requires-clause-grammar g c).After-entry-entry)

pub append-requires-clause-room : goal.append-requires-clause-room
append-requires-clause-room g c =
    has_room c.loop-command.invariant.logged (omega (arith, c.new-script.ensures.few, c.requires.script))

pub returns-in_err-append-clause-bytes : goal.returns-in_err-append-clause-bytes
returns-in_err-append-clause-bytes g c =
    (entry_fails g (goal.at.returns-in_err-append-clause-bytes g c).After-from_residual-in_err-append).0

pub returns-in_err-append-clause-one_of : goal.returns-in_err-append-clause-one_of
returns-in_err-append-clause-one_of g c =
    (entry_fails g (goal.at.returns-in_err-append-clause-one_of g c).After-from_residual-in_err-append).1

pub overflow_add-refused : goal.overflow_add-refused
overflow_add-refused g c = record {
  fits = can_count c.apply-reply.result _ c.loop-command.invariant.logged.counted
      (omega (arith, c.new-script.ensures.few, c.requires.script)) c.refusals-refused.ensures;
}

pub loop-command-preserved : goal.loop-command-preserved
loop-command-preserved g c =
    let at = goal.at.loop-command-preserved g c in
    record {
      logged = rw (c.refusals-refused.ensures, c.in_ok-append.ensures.ok)
          (logged_next c.loop-command.invariant.logged c.in-Some.ensures (did g at.After-apply-reply)
          (kept g at.After-entry-entry) c.append.ensures.entry c.in_ok-append.ensures.bytes);
      later = omega (arith, c.loop-command.invariant.later, c.append.ensures.cause);
    }

pub returns-in_err-finish-clause-bytes : goal.returns-in_err-finish-clause-bytes
returns-in_err-finish-clause-bytes g c =
    let p = err_from_is_err_and c.from_residual-in_err-finish.result c.from_residual-in_err-finish.ensures.1 in
    rw (p.1, ← c.new-script.ensures.all) ((finish_failed c.loop-command.invariant.logged c.in_default.ensures.0
    c.in_err-finish.ensures.bytes).bytes)

pub returns-in_err-finish-clause-one_of : goal.returns-in_err-finish-clause-one_of
returns-in_err-finish-clause-one_of g c =
    let p = err_from_is_err_and c.from_residual-in_err-finish.result c.from_residual-in_err-finish.ensures.1 in
    rw (p.1, ← c.new-script.ensures.all) ((finish_failed c.loop-command.invariant.logged c.in_default.ensures.0
    c.in_err-finish.ensures.bytes).one_of)

pub returns : goal.returns
returns g c =
    let few : length c.new-script.result < 2 ^ 64 = omega (arith, c.new-script.ensures.few, c.requires.script) in
    let ended = logged_ends c.loop-command.invariant.logged c.in_default.ensures.0 c.in_ok-finish.ensures.bytes
    c.begin_log.ensures.known c.requires.scene few in
    let all = c.new-script.ensures.all in
    record {
      bytes = rw (← all) ended.bytes;
      spells = rw (← all) ended.spells;
      replays = alike 1 c.args.session.now (commands c.args.script.now);
      refused = rw (← all) ended.count;
      world = rw (← all) ended.world;
      one_of = tt;
      cause = search rules;
    }

pub returns-in_err-writer-clause-replays : goal.returns-in_err-writer-clause-replays
returns-in_err-writer-clause-replays g c = alike 1 c.args.session.now (commands c.args.script.now)

pub returns-in_err-append-clause-replays : goal.returns-in_err-append-clause-replays
returns-in_err-append-clause-replays g c = alike 1 c.args.session.now (commands c.args.script.now)

pub returns-in_err-finish-clause-replays : goal.returns-in_err-finish-clause-replays
returns-in_err-finish-clause-replays g c = alike 1 c.args.session.now (commands c.args.script.now)

pub loop-command-smaller : goal.loop-command-smaller
loop-command-smaller g c = one_fewer _ _ _ c.in-Some.ensures
