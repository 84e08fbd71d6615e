use Rattle.std.proofs.Common.{◌≡◌, ◌∙◌, sym, ap, ◌+◌, ◌-◌, ◌≤◌, min, length, take, drop, arith, length-take}
use Rattle.std.specs.Prelude.{◌==◌}
use Rattle.std.specs.List.{list_any}
use Rattle.std.proofs.lemmas.List.{take_rest, drop-drop}
use Rattle.pbd_io.specs.Memory.{is_failing}
use Rattle.pbd_io.specs.Causes.{next_count}
use Rattle.pbd_io.proofs.Reading.{gives, ends, filled}
use Rattle.pbd_io.proofs.memory.MemSourceSource.read.Goals as goal
use Rattle.pbd_io.proofs.memory.MemSourceSource.read.Goals.{After-contains, After-copy_from_slice}

failing : (c : After-contains) → c.contains.result ≡ is_failing c.args.self.now
failing c =
    let fails = ap (λ fs. list_any (λ y. y == c.saturating_add-self-inside.result) fs) c.deref.ensures.value in
    let call = ap (λ n. list_any (λ y. y == n) c.self.inside.fails.items) c.saturating_add-self-inside.ensures in
    c.contains.ensures.value ∙ fails ∙ call ∙ ap is_failing c.self.view_is

-- the bytes that are left
rest_is : (c : After-copy_from_slice) →
    take (length c.deref-2.result.now - c.self.inside.at) (drop c.self.inside.at c.deref-2.result.now) ≡ c.args.self.now.left
rest_is c =
    let bytes = ap (drop c.self.inside.at) c.deref-2.ensures.value in
    take_rest c.deref-2.result.now c.self.inside.at ∙ bytes ∙ ap (λ s. s.left) c.self.view_is

-- how many are given
count_is : (c : After-copy_from_slice) →
    c.min-count.result ≡ min (min (length c.args.into.now) (length c.args.self.now.left)) c.self.inside.piece
count_is c =
    let most = c.min.ensures ∙ ap (λ r. min (length c.args.into.now) (length r)) (rest_is c) in
    c.min-count.ensures ∙ ap (λ n. min n c.self.inside.piece) most

front_is : (c : After-copy_from_slice) → c.copy_from_slice.new.self ≡ take c.min-count.result c.args.self.now.left
front_is c = c.copy_from_slice.ensures.after ∙ c.split_at.ensures.front ∙ ap (take c.min-count.result) (rest_is c)

pub returns-then-contains-clause-fails : goal.returns-then-contains-clause-fails
returns-then-contains-clause-fails c = sym c.if-contains.true ∙ failing (goal.at.returns-then-contains-clause-fails c).After-contains

pub returns-clause-fails : goal.returns-clause-fails
returns-clause-fails c = sym c.if-contains.false ∙ failing (goal.at.returns-clause-fails c).After-contains

size_is : (c : After-copy_from_slice) → length c.copy_from_slice.new.self ≡ c.min-count.result
size_is c = omega (arith, ap length (front_is c), length-take c.min-count.result c.args.self.now.left, count_is c)

-- what is behind them
left_is : (c : After-copy_from_slice) →
    drop (c.self.inside.at + c.min-count.result) c.self.inside.bytes.items ≡ drop c.min-count.result c.args.self.now.left
left_is c =
    sym (drop-drop c.min-count.result c.self.inside.at c.self.inside.bytes.items) ∙ ap (λ s. drop c.min-count.result s.left) c.self.view_is

pub slice_bounds-copy_from_slice-end-2 : goal.slice_bounds-copy_from_slice-end-2
slice_bounds-copy_from_slice-end-2 c = omega (arith, c.min.ensures, c.min-count.ensures, length-take c.min-count.result c.args.into.now)

pub copy_from_slice-requires : goal.copy_from_slice-requires
copy_from_slice-requires c =
    let short = length-take c.min-count.result c.args.into.now in
    omega (arith, short, c.split_at.ensures.front_len, c.min.ensures, c.min-count.ensures)

pub overflow_add-self : goal.overflow_add-self
overflow_add-self c =
    let rest = length-take (length c.deref-2.result.now - c.self.inside.at) (drop c.self.inside.at c.deref-2.result.now) in
    omega (arith, c.min.ensures, c.min-count.ensures, rest, c.deref-2.ensures.len, c.deref-2.type_inv)

pub returns-clause-bound : goal.returns-clause-bound
returns-clause-bound c =
    let step = (goal.at.returns-clause-bound c).After-copy_from_slice in
    filled c.copy_from_slice.new.self c.args.into.now c.min-count.result (size_is step) (omega (arith, count_is step))

pub returns-clause-bytes : goal.returns-clause-bytes
returns-clause-bytes c =
    let step = (goal.at.returns-clause-bytes c).After-copy_from_slice in
    let now = c.args.self.now.left in
    let new = c.copy_from_slice.new.self in
    let left = left_is step in
    let count = count_is step in
    let short : c.min-count.result ≤ length now = omega (arith, count) in (
      gives now new c.args.into.now _ c.min-count.result short (front_is step) left,
      ends now new c.args.into.now _ c.min-count.result c.self.inside.piece c.self.invariant.1 count (size_is step) left,
    )

pub returns-clause-count : goal.returns-clause-count
returns-clause-count c =
    let count = count_is (goal.at.returns-clause-count c).After-copy_from_slice in
    let piece = ap (λ s. s.piece) c.self.view_is in
    omega (arith, count, piece)

pub returns-clause-cause : goal.returns-clause-cause
returns-clause-cause c =
    let same = ap (λ s. s.faults) c.self.view_is in
    record { later = omega (arith, same); failed = tt }

pub returns-clause-calls : goal.returns-clause-calls
returns-clause-calls c = c.saturating_add-self-inside.ensures ∙ ap (λ s. next_count s.calls) c.self.view_is

pub returns-clause-faults : goal.returns-clause-faults
returns-clause-faults c = ap (λ s. s.faults) c.self.view_is

pub returns-clause-same_piece : goal.returns-clause-same_piece
returns-clause-same_piece c = ap (λ s. s.piece) c.self.view_is

pub returns-clause-same_fails : goal.returns-clause-same_fails
returns-clause-same_fails c = ap (λ s. s.fails) c.self.view_is
