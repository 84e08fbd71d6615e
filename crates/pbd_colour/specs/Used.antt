-- Sets of colours, kept as bits.
use Rattle.std.specs.Prelude.{ℕ, ◌<◌, ◌==◌, Bool, List, slice_index}
use Rattle.std.specs.Int.{bit_at}

-- colour d is in the set of particle p
abbrev pub has : List ℕ → ℕ → ℕ → Bool
has used p d = bit_at (slice_index used p) d == 1

-- no set has colour 63
abbrev pub AreSmall : List ℕ → Type 0
AreSmall used = (p : ℕ) → slice_index used p < 9223372036854775808
