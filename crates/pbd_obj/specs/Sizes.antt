-- Sizes: numbers of units without their signs.
use Rattle.std.specs.Prelude.{ℕ, ◌+◌, ◌*◌, ◌/◌, ◌^◌, ◌<◌, ◌≤◌, min, ℤ, pos, negsuc, neg_ℤ, unsigned_abs}
use Rattle.pbd_num.specs.declared.Vec3.{Vec3}
use Rattle.pbd_num.specs.Vectors.{on_axes}
use Rattle.pbd_obj.specs.declared.decimal.Decimal.{Decimal}

-- n / 10^k, rounded to the nearest whole number, halves up
abbrev pub lowered : ℕ → ℕ → ℕ
lowered n k = (2 * n + 10 ^ k) / (2 * 10 ^ k)

-- n times ten to a power, rounded where the power is negative
unfoldable pub scaled_size : ℕ → ℤ → ℕ
scaled_size n (pos k) = n * 10 ^ k
scaled_size n (negsuc k) = lowered n (k + 1)

-- n, or where it is greater the first number that is too great for a coordinate
abbrev pub capped_size : ℕ → ℕ
capped_size n = min n 536870913

-- the same with its sign
abbrev pub capped : ℤ → ℤ
capped (pos n) = pos (capped_size n)
capped (negsuc n) = neg_ℤ (pos (capped_size (n + 1)))

abbrev pub capped_axes : Vec3 → Vec3
capped_axes v = on_axes capped v

-- the sizes of a decimal's numbers
pub record HasFewDigits (d : Decimal) : Type 0 where
  pub digits : d.digits < 10 ^ 24
  pub power : unsigned_abs d.power ≤ 123
