-- Numbers below a number.
use Rattle.std.proofs.Common.{◌≡◌, ◌⊎◌, inl, inr, ℕ, ◌+◌, ◌<◌, arith}
use Rattle.std.proofs.lemmas.Bool.{cases_eq}

pub split_below : (k j : ℕ) → k < j + 1 → (k < j) ⊎ (k ≡ j)
split_below k j h = elim (cases_eq k j) [ inl e ↦ inr e | inr n ↦ inl (omega (arith, n)) ]
