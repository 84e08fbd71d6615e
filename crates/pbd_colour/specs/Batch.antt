-- What a batch is good for.
use Rattle.std.specs.Prelude.{◌≢◌, ℕ, ◌<◌, Bool, List, IsTrue, IsFalse, length, slice_index}
use Rattle.std.specs.List.Sorted.{IsStrictlyIncreasing}
use Rattle.pbd_world.specs.Colours.{pair_at, live_at, share}

-- numbers of live pairs, ascending
pub record AreLive (pairs : List (ℕ × ℕ)) (live : List Bool) (numbers : List ℕ) : Type 0 where
  pub within : (k : ℕ) → k < length numbers → slice_index numbers k < length pairs
  pub alive : (k : ℕ) → k < length numbers → IsTrue (live_at live (slice_index numbers k))
  pub rising : IsStrictlyIncreasing numbers

-- no two of the numbers are of pairs that share a particle
abbrev pub AreApart : List (ℕ × ℕ) → List ℕ → Type 0
AreApart pairs numbers =
    (j k : ℕ) → j < length numbers → k < length numbers → j ≢ k
    → IsFalse (share (pair_at pairs (slice_index numbers j)) (pair_at pairs (slice_index numbers k)))
