-- What a bond moves its second end by.
use Rattle.std.specs.Prelude.{ℕ, ◌<◌, ◌≡◌, ◌≤ℤ◌, ◌^◌, ℤ, pos, Bool, ◌&&◌, int_le, if◌then◌else◌}
use Rattle.pbd_num.specs.declared.Vec3.{Vec3}
use Rattle.pbd_num.specs.Vectors.{Within, length_of, scaled}
use Rattle.pbd_num.specs.PairMove.{corrections}

-- the factor that counts: a contact whose ends are no nearer than `rest` isn't pulled
abbrev pub pulled_by : ℤ → Bool → ℤ → ℕ → ℤ
pulled_by factor contact rest length = if contact && int_le rest (pos length) then pos 0 else factor

-- `move` is short, and is the part f / 512 of how far `way` is from the length `rest`, where f is the factor that counts; `factor`
-- isn't below 0, and `way` isn't of length 0
pub record IsPulled (way : Vec3) (rest factor : ℤ) (contact : Bool) (move : Vec3) : Type 0 where
  pub asked : pos 0 ≤ℤ factor
  pub apart : 0 < length_of way
  pub value : move ≡ scaled (pulled_by factor contact rest (length_of way)) (pos 512) (corrections way rest)
  pub size : Within (2 ^ 16) move
