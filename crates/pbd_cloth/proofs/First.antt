-- The first of a list that passes a test.
use Rattle.std.proofs.Common.{◌≡◌, ◌∙◌, ap, sym, ℕ, ◌<◌, ◌≤◌, cond, Bool, true, false, nat_lt, List, length, get_or, Option, Some, None}
use Rattle.std.proofs.Common.{arith}
use Rattle.std.specs.List.{position, position_or_len}
use Rattle.std.proofs.lemmas.Bool.{lt-ltb, le-ltb}
use Rattle.std.proofs.lemmas.List.Sums.{position_or_len_is}

-- it stands at i
pub first_at : {X : Type 0} (p : X → Bool) (xs : List X) (i : ℕ) (d : X) → ((k : ℕ) → k < i → p (get_or xs k d) ≡ false) → i < length xs
    → p (get_or xs i d) ≡ true → Some i ≡ position p xs
first_at p xs i d before lt passes =
    let is = position_or_len_is p xs i d (omega (arith, lt)) before (λ more. passes) in
    sym (ap (λ (n : ℕ). cond (nat_lt n (length xs)) (Some n) None) is ∙ ap (λ (b : Bool). cond b (Some i) None) (lt-ltb i (length xs) lt))

-- there is none
pub first_none : {X : Type 0} (p : X → Bool) (xs : List X) (i : ℕ) (d : X) → ((k : ℕ) → k < i → p (get_or xs k d) ≡ false) → i ≡ length xs
    → None ≡ position p xs
first_none p xs i d before all =
    let is = position_or_len_is p xs i d (omega (arith, all)) before (λ more. absurd (omega (arith, more, all))) in
    sym (ap (λ (n : ℕ). cond (nat_lt n (length xs)) (Some n) None) is
    ∙ ap (λ (b : Bool). cond b (Some i) None) (le-ltb i (length xs) (omega (arith, all))))
