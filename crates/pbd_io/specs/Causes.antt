-- When a source or a sink may answer that it failed.
use Rattle.std.specs.Prelude.{◌≡◌, ℕ, ◌+◌, ◌-◌, ◌^◌, ◌≤◌, min, Result, OnErr, MatchResult}

-- a count that rose by so much, and stays at the last number of 64 bits
abbrev pub counted : ℕ → ℕ → ℕ
counted before more = min (before + more) (2 ^ 64 - 1)

-- a count after one more
abbrev pub next_count : ℕ → ℕ
next_count n = counted n 1

-- a fault is counted, and nothing else
abbrev pub CountsFaults : {T E : Type 0} → ℕ → ℕ → Result T E → Type 0
CountsFaults before now result = MatchResult result (λ _. now ≡ before) (λ _. now ≡ next_count before)

-- a count of faults rose, or stands at its type's end
abbrev pub HasRisen : ℕ → ℕ → Type 0
HasRisen before now = min (before + 1) (2 ^ 64 - 1) ≤ now

-- the count doesn't fall, and where the call failed it rose, or stands at its type's end
pub record HasCause {T E : Type 0} (before now : ℕ) (result : Result T E) : Type 0 where
  pub later : before ≤ now
  pub failed : OnErr result (HasRisen before now)
