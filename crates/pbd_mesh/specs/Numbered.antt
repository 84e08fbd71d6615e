-- A list for each number below n, one after another, and a test of each.
use Rattle.std.specs.Prelude.{ℕ, zero, suc, Bool, true, ◌&&◌, List, [], ◌++◌}

-- f 0, f 1, .., f (n - 1), one after another
unfoldable pub concatenated : {A : Type 0} → ℕ → (ℕ → List A) → List A
concatenated zero f = []
concatenated (suc n) f = concatenated n f ++ f n

-- f 0, f 1, .., f (n - 1) are all true
unfoldable pub all_below : ℕ → (ℕ → Bool) → Bool
all_below zero f = true
all_below (suc n) f = all_below n f && f n
