-- How often a search reads its chains.
use Rattle.std.specs.Prelude.{ℕ, ◌+◌, ℤ, unsigned_abs, List, length}
use Rattle.std.specs.List.{range_with_len, sum_by}
use Rattle.pbd_num.specs.declared.Vec3.{Vec3}
use Rattle.pbd_grid.specs.declared.lookup.GridCell.{GridCell}
use Rattle.pbd_grid.specs.Blocks.{cube_at, corner_of, block_part, slot_of, sharing}

-- what a grid is seen as: how many particles and chains it has, and how often the last search read the chains
pub record Searched : Type 0 where
  pub particles : ℕ
  pub chains : ℕ
  pub looks : ℕ

-- to look up a cell is to read the first of its chain, and what comes behind each that stands there and behind i
abbrev pub looks_in : ℕ → ℕ → List Vec3 → ℕ → GridCell → ℕ
looks_in count t places i c = 1 + length (sharing count t places i (slot_of count c))

-- for the first k of the eight cells from a corner on
unfoldable pub looks_round : ℕ → ℕ → List Vec3 → ℕ → GridCell → ℕ → ℕ
looks_round count t places i from k = sum_by (looks_in count t places i) (block_part from k)

-- for the first n particles, each of which looks up its eight cells
unfoldable pub looks_before : ℕ → ℕ → List Vec3 → ℕ → ℕ
looks_before count t places n =
    sum_by (λ i. looks_round count t places i (corner_of (cube_at t places i)) 8) (range_with_len 0 n)

-- for all particles, with so many chains
abbrev pub looks_for : ℕ → ℤ → List Vec3 → ℕ
looks_for count thickness places = looks_before count (unsigned_abs thickness) places (length places)
