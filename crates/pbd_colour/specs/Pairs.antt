-- Pairs of particles with a live flag each, as a colouring is seen.
use Rattle.std.specs.Prelude.{◌≢◌, ℕ, ◌<◌, Bool, false, List, slice_set, fold, length}
use Rattle.pbd_world.specs.Colours.{pair_at, colour, of_colour}

-- what a colouring is seen as
pub record Coloured : Type 0 where
  pub particles : ℕ
  pub room : ℕ
  pub pairs : List (ℕ × ℕ)
  pub live : List Bool

-- the live numbers of a colour, ascending
abbrev pub batch_of : List (ℕ × ℕ) → List Bool → ℕ → List ℕ
batch_of pairs live c = of_colour live (colour pairs live) (length pairs) c

-- the flags with those of the numbers taken away
abbrev pub dropped : List ℕ → List Bool → List Bool
dropped numbers live = fold (λ flags k. slice_set flags k false) live numbers

-- each pair is of two different particles below n
abbrev pub InRange : ℕ → List (ℕ × ℕ) → Type 0
InRange n pairs =
    (k : ℕ) → k < length pairs → ((pair_at pairs k).0 < n) × ((pair_at pairs k).1 < n) × ((pair_at pairs k).0 ≢ (pair_at pairs k).1)
