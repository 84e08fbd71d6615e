-- Vectors of whole numbers of any size, axis by axis.
use Rattle.std.specs.Prelude.{ℕ, ◌+◌, ◌*◌, ◌≤◌, ℤ, List, [], ◌∷◌, pos, neg_ℤ, ◌+ℤ◌, ◌-ℤ◌, ◌*ℤ◌, int_le, Bool, ◌&&◌, unsigned_abs}
use Rattle.pbd_num.specs.declared.Vec3.{Vec3}
use Rattle.pbd_num.specs.Rounding.{rdiv, root}

-- a function of each axis
abbrev pub on_axes : (ℤ → ℤ) → Vec3 → Vec3
on_axes f v = record { x = f v.x; y = f v.y; z = f v.z }

-- a function of each axis of two vectors
abbrev pub axis_by_axis : (ℤ → ℤ → ℤ) → Vec3 → Vec3 → Vec3
axis_by_axis f a b = record { x = f a.x b.x; y = f a.y b.y; z = f a.z b.z }

abbrev pub zero_vector : Vec3
zero_vector = record { x = pos 0; y = pos 0; z = pos 0 }

abbrev pub plus : Vec3 → Vec3 → Vec3
plus a b = axis_by_axis (λ p q. p +ℤ q) a b

abbrev pub minus : Vec3 → Vec3 → Vec3
minus a b = axis_by_axis (λ p q. p -ℤ q) a b

abbrev pub opposite : Vec3 → Vec3
opposite v = on_axes neg_ℤ v

-- n times each axis
abbrev pub times : ℤ → Vec3 → Vec3
times n v = on_axes (λ axis. axis *ℤ n) v

-- the part n / d of each axis, rounded
abbrev pub scaled : ℤ → ℤ → Vec3 → Vec3
scaled n d v = on_axes (λ axis. rdiv (axis *ℤ n) d) v

abbrev pub dot : Vec3 → Vec3 → ℤ
dot a b = a.x *ℤ b.x +ℤ a.y *ℤ b.y +ℤ a.z *ℤ b.z

abbrev pub squared_length : Vec3 → ℕ
squared_length v = unsigned_abs v.x * unsigned_abs v.x + unsigned_abs v.y * unsigned_abs v.y + unsigned_abs v.z * unsigned_abs v.z

-- the length of a vector, rounded down
abbrev pub length_of : Vec3 → ℕ
length_of v = root (squared_length v)

-- an axis lies in -limit..=limit
abbrev pub is_axis_within : ℤ → ℤ → Bool
is_axis_within limit n = int_le (neg_ℤ limit) n && int_le n limit

-- the three axes in order
abbrev pub axes : Vec3 → List ℤ
axes v = v.x ∷ v.y ∷ v.z ∷ []

-- each axis lies in -limit..=limit
abbrev pub is_within : ℤ → Vec3 → Bool
is_within limit v = is_axis_within limit v.x && is_axis_within limit v.y && is_axis_within limit v.z

-- the same as facts: each axis is at most `bound` in size
pub record Within (bound : ℕ) (v : Vec3) : Type 0 where
  pub x : unsigned_abs v.x ≤ bound
  pub y : unsigned_abs v.y ≤ bound
  pub z : unsigned_abs v.z ≤ bound
