-- Numbers from one on, in order.
use Rattle.std.proofs.Common.{◌≡◌, ◌∙◌, ap, ℕ, zero, suc, ◌+◌, List, [], ◌∷◌, ◌++◌, arith}
use Rattle.std.specs.List.{range_with_len}
use Rattle.std.specs.List.Sorted.{IsStrictlyIncreasing}
use Rattle.std.proofs.lemmas.List.FromFn.{length-range_with_len, get_or-range_with_len}

-- one number more
pub range_push : (a n : ℕ) → range_with_len a (suc n) ≡ range_with_len a n ++ (a + n) ∷ []
range_push a zero = ap (λ (x : ℕ). x ∷ []) (omega arith)
range_push a (suc n) = ap (λ (xs : List ℕ). a ∷ xs) (range_push (a + 1) n
    ∙ ap (λ (x : ℕ). range_with_len (a + 1) n ++ x ∷ []) (omega arith))

pub range_increases : (n : ℕ) → IsStrictlyIncreasing (range_with_len 0 n)
range_increases n k l = let s = length-range_with_len 0 n in
    omega (arith, get_or-range_with_len 0 n k 0 (omega (arith, l, s)), get_or-range_with_len 0 n (k + 1) 0 (omega (arith, l, s)))
