-- What the reader keeps beside the list of the named particles.
use Rattle.std.specs.Prelude.{◌≡◌, ℕ, ◌<◌, Bool, false, List, length, slice_index_or}
use Rattle.pbd_world.specs.Neighbours.{is_among}

-- flag i says whether number i is named
pub record Flags (count : ℕ) (named : List ℕ) (flags : List Bool) : Type 0 where
  pub size : length flags ≡ count
  pub flag : (i : ℕ) → i < count → slice_index_or flags i false ≡ is_among i named
