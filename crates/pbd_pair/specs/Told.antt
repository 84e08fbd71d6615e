-- How rows tell the moves of a chunk's bonds.
use Rattle.std.specs.Prelude.{◌≡◌, ℕ, ◌*◌, ◌^◌, List, length, Bool, not}
use Rattle.pbd_num.specs.declared.Vec3.{Vec3}
use Rattle.pbd_num.specs.declared.row.Row.{Row}
use Rattle.pbd_num.specs.Vectors.{Within, zero_vector}
use Rattle.pbd_store.specs.Pairs.{row_in}
use Rattle.pbd_pair.specs.declared.chunk.Found.{Found}
use Rattle.pbd_pair.specs.declared.near.NearMoves.{NearMoves}
use Rattle.pbd_pair.specs.declared.near.Told.{Told}
use Rattle.pbd_pair.specs.declared.near.Told.TheVariants.{Alike, Apart, InPart}
use Rattle.pbd_pair.specs.declared.sums.MoveSums.{MoveSums}
use Rattle.pbd_pair.specs.Bonds.{bond_of}
use Rattle.pbd_pair.specs.Moves.{moved_below}
use Rattle.pbd_pair.specs.Laid.{number_in}
use Rattle.pbd_pair.specs.Chunks.{has_held, lying_in, moved_if, AreMoved, AreTried}

-- bond j of a chunk has a held end
abbrev pub beside : Found → ℕ → Bool
beside found j = has_held (number_in found.laid.first_weight.now j) (number_in found.laid.second_weight.now j)

-- what the ends of those bonds of a chunk that count move by together
abbrev pub sum_where : (ℕ → Bool) → List Row → List Row → Found → Vec3
sum_where counts back forth found = moved_below (λ j. moved_if (counts j) (row_in back j) (row_in forth j)) (length found.chunk.numbers.now)

-- two rows a bond tell the moves of a chunk's bonds, and these are their sums: of the bonds with a held end, and of the others
pub record AreSummed (found : Found) (back forth : List Row) (sums : MoveSums) : Type 0 where
  pub moved : AreMoved (bond_of found.chunk.bonds) found.chunk.numbers.now (lying_in found) back forth
  pub pins : sums.pins ≡ sum_where (beside found) back forth found
  pub own : sums.own ≡ sum_where (λ j. not (beside found j)) back forth found
  pub pins_size : Within (length found.chunk.numbers.now * 2 ^ 23) sums.pins
  pub own_size : Within (length found.chunk.numbers.now * 2 ^ 23) sums.own

-- nothing moves together
abbrev pub no_sums : MoveSums
no_sums = record { pins = zero_vector; own = zero_vector }

-- the moves of a chunk's bonds are told so
abbrev pub AreToldBy : Found → NearMoves → Told → Type 0
AreToldBy found near Alike = AreSummed found near.moves near.moves no_sums
AreToldBy found near (Apart sums) = AreSummed found near.back near.forth sums
AreToldBy found near InPart = AreTried (bond_of found.chunk.bonds) found.chunk.numbers.now (lying_in found) near.moves
