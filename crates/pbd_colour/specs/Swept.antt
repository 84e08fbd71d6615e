-- The sweep that mends colours after pairs were dropped.
use Rattle.std.specs.Prelude.{◌≡◌, ℕ, ◌<◌, ◌≤◌, ◌==◌, ◌&&◌, Bool, List, IsTrue, IsFalse, length, slice_index}
use Rattle.pbd_colour.specs.Pairs.{dropped}
use Rattle.pbd_world.specs.Colours.{live_at, blocks, some_below, least_free, colour}

-- each live pair has its colour
abbrev pub ArePainted : List (ℕ × ℕ) → List Bool → List ℕ → Type 0
ArePainted pairs live cs = (i : ℕ) → i < length pairs → IsTrue (live_at live i) → slice_index cs i ≡ colour pairs live i

-- pair j stands in the way of colour d for pair i, by the colours that are held now
abbrev pub holds : List (ℕ × ℕ) → List Bool → List ℕ → ℕ → ℕ → ℕ → Bool
holds pairs live cs i d j = blocks pairs live i j && slice_index cs j == d

-- pair i has the least colour that no live pair before it which shares a particle with it holds now, or 63
abbrev pub IsLocal : List (ℕ × ℕ) → List Bool → List ℕ → ℕ → Type 0
IsLocal pairs live cs i = slice_index cs i ≡ least_free (λ d. some_below (holds pairs live cs i d) i)

-- each pair that was live before some numbers were dropped has the colour that it had then
pub record WerePainted (pairs : List (ℕ × ℕ)) (live : List Bool) (cs numbers : List ℕ) : Type 0 where
  pub was : List Bool
  pub dropped_from : live ≡ dropped numbers was
  pub painted : ArePainted pairs was cs

-- at place p of the sweep each live pair before p has its colour, and each live pair from p on that isn't
-- marked has the least colour by what is held now
pub record IsSwept (pairs : List (ℕ × ℕ)) (live : List Bool) (cs : List ℕ) (marked : List Bool) (p : ℕ) : Type 0 where
  pub done : (i : ℕ) → i < p → IsTrue (live_at live i) → slice_index cs i ≡ colour pairs live i
  pub rest : (i : ℕ) → p ≤ i → i < length pairs → IsTrue (live_at live i) → IsFalse (live_at marked i) → IsLocal pairs live cs i
