-- What is searched, and what look-ups of it find.
use Rattle.std.specs.Prelude.{◌≡◌, ◌<◌, ℕ, Bool, List, Some}
use Rattle.pbd_chain.specs.Linked.{item_at}
use Rattle.pbd_grid.specs.declared.lookup.GridCell.{GridCell}
use Rattle.pbd_grid.specs.declared.lookup.Crowd.{Crowd}
use Rattle.pbd_grid.specs.Blocks.{AreLaid, Below, slot_of, picked, all_picked, block_part}
use Rattle.pbd_grid.specs.Looks.{looks_in, looks_round}

-- the chains and the cubes are those of the places
abbrev pub IsLaid : Crowd → Type 0
IsLaid crowd = AreLaid crowd.chains.now.chains crowd.cells.count crowd.cubes.now crowd.places.now crowd.cells.side

-- the chain for cell c, which begins with x, is one of the chains
pub record IsBegun (crowd : Crowd) (c : GridCell) (x : ℕ) : Type 0 where
  pub within : Below 1073741825 c
  pub slot : slot_of crowd.cells.count c < crowd.cells.count
  pub first : item_at crowd.chains.now.chains (slot_of crowd.cells.count c) 0 ≡ Some x

-- what the look-up of a cell finds
abbrev pub picked_in : Crowd → (ℕ → ℕ → Bool) → ℕ → GridCell → List ℕ
picked_in crowd test i cell = picked crowd.chains.now.chains crowd.places.now crowd.cells.side test i cell

-- what the look-ups of the eight cells from a corner on find
abbrev pub picked_round : Crowd → (ℕ → ℕ → Bool) → ℕ → GridCell → List ℕ
picked_round crowd test i from = all_picked crowd.chains.now.chains crowd.places.now crowd.cells.side test i (block_part from 8)

-- how often the chains are read for a cell
abbrev pub looked_in : Crowd → ℕ → GridCell → ℕ
looked_in crowd i cell = looks_in crowd.cells.count crowd.cells.side crowd.places.now i cell

-- how often for the eight cells from a corner on
abbrev pub looked_round : Crowd → ℕ → GridCell → ℕ
looked_round crowd i from = looks_round crowd.cells.count crowd.cells.side crowd.places.now i from 8
