-- Places in halves: a row of the low halves of its axes, and the high halves, which are 0 wherever 32 bits hold an axis.
use Rattle.std.specs.Prelude.{◌≡◌, ℕ, ◌+◌, ◌*◌, ◌^◌, ℤ, pos, negsuc, List, length, map, slice_index_or}
use Rattle.pbd_num.specs.declared.Vec3.{Vec3}
use Rattle.pbd_num.specs.Vectors.{zero_vector}
use Rattle.pbd_lanes.specs.Lane.{lanes_of}
use Rattle.pbd_store.specs.declared.rows.High.{High}
use Rattle.pbd_store.specs.declared.rows.Place.{Place}

-- a place as a row
abbrev pub row_of : Vec3 → Place
row_of v = record { x = v.x; y = v.y; z = v.z; spare = pos 0 }

-- the place in a row
abbrev pub place_in_row : Place → Vec3
place_in_row p = record { x = p.x; y = p.y; z = p.z }

-- the places in rows
abbrev pub places_in : List Place → List Vec3
places_in rows = map place_in_row rows

-- the spare number of each row is 0
pub record AreFlat (rows : List Place) : Type 0 where
  pub each : (i : ℕ) → (slice_index_or rows i (row_of zero_vector)).spare ≡ pos 0

-- row i, and the place in it
abbrev pub row_at : List Place → ℕ → Place
row_at rows i = slice_index_or rows i (row_of zero_vector)

abbrev pub place_in : List Place → ℕ → Vec3
place_in rows i = place_in_row (row_at rows i)

-- the high halves at i
abbrev pub no_high : High
no_high = record { x = 0; y = 0; z = 0 }

abbrev pub high_at : List High → ℕ → High
high_at high i = slice_index_or high i no_high

-- the axis of two halves: the high one counts away from 0
unfoldable pub axis_of : ℤ → ℕ → ℤ
axis_of (pos n) high = pos (high * 2 ^ 31 + n)
axis_of (negsuc n) high = negsuc (high * 2 ^ 31 + n)

-- the same of three axes
abbrev pub place_by : Vec3 → High → Vec3
place_by low high = record { x = axis_of low.x high.x; y = axis_of low.y high.y; z = axis_of low.z high.z }

-- the places of which these are the low rows and the high halves
abbrev pub places_by : List Place → List High → List Vec3
places_by low high = lanes_of (length low) (λ i. place_by (place_in low i) (high_at high i))

-- there are as many high halves as low rows, and these are flat
pub record AreHalves (low : List Place) (high : List High) : Type 0 where
  pub long : length high ≡ length low
  pub flat : AreFlat low
