-- Marks on numbers, with one more for each block of 256 numbers.
use Rattle.std.specs.Prelude.{◌≡◌, ℕ, ◌+◌, ◌/◌, ◌<◌, ◌≤◌, Bool, List, IsTrue, IsFalse, length}
use Rattle.pbd_world.specs.Room.{Roomed}
use Rattle.pbd_world.specs.Colours.{live_at}

-- the block of a marked number is marked
pub record AreBlocked (marks blocks : List Bool) : Type 0 where
  pub count : length blocks ≡ length marks / 256 + 1
  pub told : (k : ℕ) → IsTrue (live_at marks k) → IsTrue (live_at blocks (k / 256))

-- no number from a to b - 1 is marked
abbrev pub AreUnmarked : List Bool → ℕ → ℕ → Type 0
AreUnmarked marks a b = (k : ℕ) → a ≤ k → k < b → IsFalse (live_at marks k)

-- marks on as many numbers, with as much room
pub record AreAsMany (was now : Roomed Bool) : Type 0 where
  pub count : length now.entries ≡ length was.entries
  pub room : now.room ≡ was.room
