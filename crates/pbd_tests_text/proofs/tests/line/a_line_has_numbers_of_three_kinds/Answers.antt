use Rattle.std.proofs.Common.{◌≡◌, ℕ, ◌+◌, List, [], ◌∷◌, ◌++◌, length, arith, length-append}
use Rattle.pbd_tests_text.proofs.tests.line.a_line_has_numbers_of_three_kinds.Goals as goal

one_more : (line new : List ℕ) (byte : ℕ) → new ≡ line ++ byte ∷ [] → length new ≡ length line + 1
one_more line new byte is = rw is (length-append line (byte ∷ []))

pub push_signed-requires : goal.push_signed-requires
push_signed-requires c =
    let number = rw c.new-line.ensures at c.push_number.ensures.len in
    omega (arith, number, one_more _ _ _ c.push.ensures)

pub push_bytes-requires : goal.push_bytes-requires
push_bytes-requires c =
    let number = rw c.new-line.ensures at c.push_number.ensures.len in
    omega (arith, number, one_more _ _ _ c.push.ensures, c.push_signed.ensures.len)

pub push_wide-requires : goal.push_wide-requires
push_wide-requires c =
    let number = rw c.new-line.ensures at c.push_number.ensures.len in
    omega (arith, number, one_more _ _ _ c.push.ensures, c.push_signed.ensures.len, one_more _ _ _ c.push_bytes.ensures)

pub push-requires-in-loop-row : goal.push-requires-in-loop-row
push-requires-in-loop-row c =
    let number = rw c.new-line.ensures at c.push_number.ensures.len in
    let signed = one_more _ _ _ c.push_bytes.ensures in
    omega (arith, number, one_more _ _ _ c.push.ensures, c.push_signed.ensures.len, signed, c.push_wide.ensures.len)
