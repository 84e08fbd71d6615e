-- What a write to memory takes of a piece.
use Rattle.std.proofs.Common.{◌≡◌, ◌∙◌, sym, ap, ℕ, ◌-◌, ◌<◌, ◌≤◌, min, List, ◌++◌, length, take, Some, None, true, false, arith}
use Rattle.std.proofs.Common.{append-nil, nat_lt}
use Rattle.std.specs.Prelude.{unwrap_or}
use Rattle.std.proofs.lemmas.Bool.Decides.{nat_tests}
use Rattle.std.proofs.lemmas.List.{take_all, take_min}
use Rattle.pbd_io.specs.Causes.{next_count}
use Rattle.pbd_io.specs.Memory.{SinkState, cut, cut_at, appended}

pub cut_short : (s t : SinkState) (piece : List ℕ) → t ≡ s → t.room - length t.bytes < length piece → cut s piece ≡ Some 0
cut_short s t piece same long =
    let test : nat_lt (t.room - length t.bytes) (length piece) ≡ true = grind (arith, nat_tests) in
    rw test at (ap (λ s. cut s piece) (sym same))

pub cut_fits : (s t : SinkState) (piece : List ℕ) → t ≡ s → length piece ≤ t.room - length t.bytes
    → cut s piece ≡ cut_at t.fails (next_count t.calls)
cut_fits s t piece same short =
    let test : nat_lt (t.room - length t.bytes) (length piece) ≡ false = grind (arith, nat_tests) in
    rw test at (ap (λ s. cut s piece) (sym same))

-- what it holds then: nothing more of a piece without room
pub appends_none : (s t : SinkState) (piece : List ℕ) → t ≡ s → cut s piece ≡ Some 0 → t.bytes ≡ s.bytes ++ appended s piece
appends_none s t piece same is =
    let taken = ap (λ o. s.bytes ++ take (unwrap_or o (length piece)) piece) is in
    ap (λ s. s.bytes) same ∙ sym (append-nil s.bytes) ∙ sym taken

-- a front of a piece where the call fails
pub appends_front : (s t : SinkState) (piece new : List ℕ) (n m : ℕ)
    → t ≡ s → cut s piece ≡ Some n → new ≡ t.bytes ++ take m piece → m ≡ min n (length piece) → new ≡ s.bytes ++ appended s piece
appends_front s t piece new n m same is items least =
    let taken = ap (λ o. s.bytes ++ take (unwrap_or o (length piece)) piece) is in
    let front = ap (λ k. s.bytes ++ take k piece) least ∙ ap (λ front. s.bytes ++ front) (take_min n piece) in
    items ∙ ap (λ s. s.bytes ++ take m piece) same ∙ front ∙ sym taken

-- and all of it elsewhere
pub appends_all : (s t : SinkState) (piece new : List ℕ)
    → t ≡ s → cut s piece ≡ None → new ≡ t.bytes ++ piece → new ≡ s.bytes ++ appended s piece
appends_all s t piece new same is items =
    let taken = ap (λ o. s.bytes ++ take (unwrap_or o (length piece)) piece) is in
    items ∙ ap (λ s. s.bytes ++ piece) same ∙ ap (λ whole. s.bytes ++ whole) (sym (take_all (length piece) piece (omega arith))) ∙ sym taken
