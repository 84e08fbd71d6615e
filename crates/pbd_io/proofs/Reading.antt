-- What a read from memory gives, and what it leaves.
use Rattle.std.proofs.Common.{◌≡◌, ◌∙◌, sym, ap, ℕ, ◌<◌, ◌≤◌, min, List, [], ◌++◌, length, take, drop, arith, length-take, length-append}
use Rattle.std.proofs.Common.{length-drop}
use Rattle.std.proofs.lemmas.List.{take_all, take-append-le, take-append-drop}
use Rattle.std.proofs.Math.ListN.{drop_of_length-le}

-- n bytes of what was left stand at the front of the slice that was filled
pub gives : (rest front into after : List ℕ) (n : ℕ) → n ≤ length rest → front ≡ take n rest → after ≡ drop n rest
    → rest ≡ take n (front ++ drop n into) ++ after
gives rest front into after n le given left =
    let size : length front ≡ n = omega (arith, ap length given, length-take n rest) in
    let short : n ≤ length front = omega arith in
    let long : length front ≤ n = omega arith in
    rw (take-append-le n front (drop n into) short, take_all n front long, given, left) (sym (take-append-drop n rest))

-- nothing is given only into no room or at the end
pub ends : (rest front into after : List ℕ) (n piece : ℕ)
    → 1 ≤ piece → n ≡ min (min (length into) (length rest)) piece → length front ≡ n → after ≡ drop n rest
    → n ≡ 0 → 0 < length (front ++ drop n into) → after ≡ []
ends rest front into after n piece some count size left none room =
    let all : length rest ≤ n = omega (arith, length-append front (drop n into), length-drop n into) in
    left ∙ drop_of_length-le rest all

-- the slice is as long as it was
pub filled : (front into : List ℕ) (n : ℕ) → length front ≡ n → n ≤ length into
    → (n ≤ length (front ++ drop n into)) × (n ≡ length (take n (front ++ drop n into)))
filled front into n size le =
    let whole : n ≤ length (front ++ drop n into) = omega (arith, length-append front (drop n into)) in
    (whole, omega (arith, length-take n (front ++ drop n into)))
