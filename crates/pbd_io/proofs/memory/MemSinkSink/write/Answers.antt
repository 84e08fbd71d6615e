use Rattle.std.proofs.Common.{◌≡◌, ◌∙◌, sym, ap, ◌++◌, length, take, arith, append-nil, length-append, length-take}
use Rattle.std.specs.Prelude.{is_some}
use Rattle.pbd_io.specs.Causes.{next_count}
use Rattle.pbd_io.specs.Memory.{cut, cut_at}
use Rattle.pbd_io.proofs.Writing.{cut_short, cut_fits, appends_none, appends_front, appends_all}
use Rattle.pbd_io.proofs.memory.MemSinkSink.write.Goals as goal
use Rattle.pbd_io.proofs.memory.MemSinkSink.write.Goals.{After-cut_at}

cut_is : (c : After-cut_at) → cut c.args.self.now c.args.piece.now ≡ c.cut_at.result
cut_is c =
    let call = ap (λ n. cut_at c.self.inside.fails.items n) c.saturating_add-self-inside.ensures in
    let found = c.cut_at.ensures ∙ ap (λ fails. cut_at fails c.saturating_add-self-inside.result) c.deref.ensures.value ∙ call in
    cut_fits c.args.self.now _ c.args.piece.now c.self.view_is (omega (arith, c.if-piece-self.false, c.len.ensures)) ∙ sym found

pub append-requires-in-Some : goal.append-requires-in-Some
append-requires-in-Some c = omega (arith, c.self.invariant, c.if-piece-self.false, c.len.ensures, length-take c.min.result c.args.piece.now)

pub append-requires : goal.append-requires
append-requires c = omega (arith, c.self.invariant, c.if-piece-self.false, c.len.ensures)

pub invariant_of-self-in-Some : goal.invariant_of-self-in-Some
invariant_of-self-in-Some c =
    let front = take c.min.result c.args.piece.now in
    let more = length-append c.self.inside.bytes.items front in
    let held = ap length c.append-in-Some.ensures.items in
    let short = length-take c.min.result c.args.piece.now in (
      omega (arith, c.if-piece-self.false, c.len.ensures, held, more, short),
      omega (arith, c.self.invariant, c.append-in-Some.ensures.capacity),
    )

pub invariant_of-self-in-None : goal.invariant_of-self-in-None
invariant_of-self-in-None c =
    let more = length-append c.self.inside.bytes.items c.args.piece.now in
    let held = ap length c.append.ensures.items in
    (omega (arith, c.if-piece-self.false, c.len.ensures, held, more), omega (arith, c.self.invariant, c.append.ensures.capacity))

pub returns-then-piece-self-clause-bytes : goal.returns-then-piece-self-clause-bytes
returns-then-piece-self-clause-bytes c = (0, ap (λ s. s.bytes) c.self.view_is ∙ sym (append-nil c.args.self.now.bytes))

pub returns-then-piece-self-clause-appended : goal.returns-then-piece-self-clause-appended
returns-then-piece-self-clause-appended c =
    let long = cut_short c.args.self.now _ c.args.piece.now c.self.view_is (omega (arith, c.if-piece-self.true, c.len.ensures)) in
    appends_none c.args.self.now _ c.args.piece.now c.self.view_is long

pub returns-then-piece-self-clause-fails : goal.returns-then-piece-self-clause-fails
returns-then-piece-self-clause-fails c =
    sym (ap is_some (cut_short c.args.self.now _ c.args.piece.now c.self.view_is (omega (arith, c.if-piece-self.true, c.len.ensures))))

pub returns-in-Some-clause-bytes : goal.returns-in-Some-clause-bytes
returns-in-Some-clause-bytes c =
    let same = ap (λ s. s.bytes ++ take c.min.result c.args.piece.now) c.self.view_is in
    (c.min.result, c.append-in-Some.ensures.items ∙ same)

pub returns-in-Some-clause-appended : goal.returns-in-Some-clause-appended
returns-in-Some-clause-appended c =
    let is = cut_is (goal.at.returns-in-Some-clause-appended c).After-cut_at ∙ c.in-Some.is in
    let items = c.append-in-Some.ensures.items in
    appends_front c.args.self.now _ c.args.piece.now c.append-in-Some.new.bytes.items _ _ c.self.view_is is items (omega arith)

pub returns-in-Some-clause-fails : goal.returns-in-Some-clause-fails
returns-in-Some-clause-fails c = sym (ap is_some (cut_is (goal.at.returns-in-Some-clause-fails c).After-cut_at ∙ c.in-Some.is))

pub returns-in-Some-clause-cause : goal.returns-in-Some-clause-cause
returns-in-Some-clause-cause c =
    let same = ap (λ s. s.faults) c.self.view_is in
    let more = c.saturating_add-self-inside-in-Some.ensures in
    let ranges = c.self.ranges in
    record { later = omega (arith, same, more, ranges); failed = omega (arith, same, more) }

pub returns-in-Some-clause-faults : goal.returns-in-Some-clause-faults
returns-in-Some-clause-faults c = c.saturating_add-self-inside-in-Some.ensures ∙ ap (λ s. next_count s.faults) c.self.view_is

pub returns-in-Some-clause-calls : goal.returns-in-Some-clause-calls
returns-in-Some-clause-calls c = c.saturating_add-self-inside.ensures ∙ ap (λ s. next_count s.calls) c.self.view_is

pub returns-in-Some-clause-same_room : goal.returns-in-Some-clause-same_room
returns-in-Some-clause-same_room c = ap (λ s. s.room) c.self.view_is

pub returns-in-Some-clause-same_fails : goal.returns-in-Some-clause-same_fails
returns-in-Some-clause-same_fails c = ap (λ s. s.fails) c.self.view_is

pub returns-in-None-clause-bytes : goal.returns-in-None-clause-bytes
returns-in-None-clause-bytes c = c.append.ensures.items ∙ ap (λ s. s.bytes ++ c.args.piece.now) c.self.view_is

pub returns-in-None-clause-appended : goal.returns-in-None-clause-appended
returns-in-None-clause-appended c =
    let is = cut_is (goal.at.returns-in-None-clause-appended c).After-cut_at ∙ c.in-None.is in
    appends_all c.args.self.now _ c.args.piece.now c.append.new.bytes.items c.self.view_is is c.append.ensures.items

pub returns-in-None-clause-fails : goal.returns-in-None-clause-fails
returns-in-None-clause-fails c = sym (ap is_some (cut_is (goal.at.returns-in-None-clause-fails c).After-cut_at ∙ c.in-None.is))

pub returns-in-None-clause-calls : goal.returns-in-None-clause-calls
returns-in-None-clause-calls c = c.saturating_add-self-inside.ensures ∙ ap (λ s. next_count s.calls) c.self.view_is

pub returns-in-None-clause-same_room : goal.returns-in-None-clause-same_room
returns-in-None-clause-same_room c = ap (λ s. s.room) c.self.view_is
