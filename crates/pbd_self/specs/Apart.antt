-- Which particles may touch each other where they are near.
use Rattle.std.specs.Prelude.{ℕ, not, ◌&&◌, Bool, false, List, slice_index_or}
use Rattle.pbd_world.specs.Colours.{joined}
use Rattle.pbd_colour.specs.Pairs.{Coloured}

-- a particle is held
abbrev pub held_at : List Bool → ℕ → Bool
held_at held i = slice_index_or held i false

-- two particles aren't both held, and no live link joins them
abbrev pub may_touch : List Bool → Coloured → ℕ → ℕ → Bool
may_touch held links i j = not (held_at held i && held_at held j) && not (joined links.pairs links.live i j)
