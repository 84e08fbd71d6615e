-- What the columns hold.
use Rattle.std.specs.Prelude.{ℕ, ◌+◌, ◌*◌, ◌<◌, ◌≡◌, ◌^◌, ◌-ℤ◌, ℤ, pos, neg_ℤ, unsigned_abs, Bool, slice_index_or}
use Rattle.std.specs.Int.{int_max, int_min}
use Rattle.pbd_num.specs.declared.Vec3.{Vec3}
use Rattle.pbd_num.specs.declared.row.Row.{Row}
use Rattle.pbd_num.specs.Vectors.{Within, length_of, squared_length, scaled}
use Rattle.pbd_num.specs.PairMove.{corrections}
use Rattle.pbd_num.specs.Rows.{vector_of}
use Rattle.pbd_near.specs.declared.shares.Taken.{Taken}
use Rattle.pbd_near.specs.declared.ways.Ways.{Ways}
use Rattle.pbd_near.specs.Moves.{IsPulled}

-- an axis brought within 2^15
abbrev pub short_of : ℤ → ℤ
short_of z = int_max (neg_ℤ (pos 32768)) (int_min z (pos 32768))

abbrev pub axes_of : Taken → Vec3
axes_of taken = record { x = taken.x; y = taken.y; z = taken.z }

-- the axes of a way, each brought within 2^15, and the square of their length
pub record IsTaken (way : Row) (taken : Taken) : Type 0 where
  pub x : taken.x ≡ short_of way.x
  pub y : taken.y ≡ short_of way.y
  pub z : taken.z ≡ short_of way.z
  pub square : taken.square ≡ squared_length (axes_of taken)

-- the move of a way of that length, whose length is wrong by `error`
pub record IsMove (way : Vec3) (length error factor : ℤ) (move : Vec3) : Type 0 where
  pub long : length ≡ pos (length_of way)
  pub apart : 0 < length_of way
  pub value : move ≡ scaled factor (pos 512) (corrections way (length -ℤ error))
  pub size : Within (2 ^ 16) move

-- what the columns hold at j
abbrev pub taken_at : Ways → ℕ → Taken
taken_at ways j = record {
  x = slice_index_or ways.x j (pos 0);
  y = slice_index_or ways.y j (pos 0);
  z = slice_index_or ways.z j (pos 0);
  square = slice_index_or ways.square j 0;
}

-- a row without a flag is the move of a way of which the columns hold this
abbrev pub IsFound : Taken → ℤ → ℤ → Bool → Row → Type 0
IsFound taken rest factor contact row =
    row.flag ≡ pos 0 → (way : Row) → IsTaken way taken → IsPulled (vector_of way) rest factor contact (vector_of row)
