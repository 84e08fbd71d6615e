-- Sets of residues by 54, one for each particle, of the particles that its pairs may lead to.
use Rattle.std.specs.Prelude.{ℕ, ◌<◌, ◌%◌, List, IsTrue, length}
use Rattle.pbd_world.specs.Colours.{pair_at}
use Rattle.pbd_colour.specs.Used.{has}

-- each particle of a pair is in the set of the other
abbrev pub AreTold : List (ℕ × ℕ) → List ℕ → Type 0
AreTold pairs sets = (k : ℕ) → k < length pairs
    → IsTrue (has sets (pair_at pairs k).0 ((pair_at pairs k).1 % 54)) × IsTrue (has sets (pair_at pairs k).1 ((pair_at pairs k).0 % 54))
