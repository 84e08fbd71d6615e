-- Cells of places: cubes of edge 2 t, each of eight cubes of edge t, and the eight cells that hold what is near a place.
use Rattle.std.specs.Prelude.{◌≡◌, ℕ, ◌<◌, ◌≤◌, ◌+◌, ◌-◌, ◌*◌, ◌/◌, ◌%◌, ◌==◌, ◌&&◌, nat_lt, bit_and, ⊤, Bool, if◌then◌else◌, ℤ, pos, ◌+ℤ◌}
use Rattle.std.specs.Prelude.{◌*ℤ◌, unsigned_abs, List, [], ◌∷◌, length, map, filter}
use Rattle.std.specs.List.{flat_map, range_with_len}
use Rattle.pbd_chain.specs.Linked.{chain_at}
use Rattle.pbd_num.specs.declared.Vec3.{Vec3}
use Rattle.pbd_grid.specs.declared.lookup.GridCell.{GridCell}
use Rattle.pbd_grid.specs.Near.{place_at, AllInside, is_near}

-- how often a number stands in a list
abbrev pub count : ℕ → List ℕ → ℕ
count q [] = 0
count q (x ∷ xs) = (if x == q then 1 else 0) + count q xs

-- the floor of x / t, counted from 536870912 below 0
unfoldable pub axis_cell : ℕ → ℤ → ℕ
axis_cell t x = unsigned_abs (x +ℤ pos 536870912 *ℤ pos t) / t

-- the cube of edge t that a place is in
abbrev pub cube_of : ℕ → Vec3 → GridCell
cube_of t place = record { x = axis_cell t place.x; y = axis_cell t place.y; z = axis_cell t place.z }

-- the cell that a cube is in
abbrev pub home_of : GridCell → GridCell
home_of c = record { x = (c.x + 1) / 2; y = (c.y + 1) / 2; z = (c.z + 1) / 2 }

-- the least of the cells that a place less than t from a place of a cube can be in, of which each axis has two
abbrev pub corner_of : GridCell → GridCell
corner_of c = record { x = c.x / 2; y = c.y / 2; z = c.z / 2 }

abbrev pub beside : GridCell → ℕ → ℕ → ℕ → GridCell
beside c i j k = record { x = c.x + i; y = c.y + j; z = c.z + k }

-- the cube of a particle
abbrev pub cube_at : ℕ → List Vec3 → ℕ → GridCell
cube_at t places j = cube_of t (place_at places j)

-- the cell of a particle
abbrev pub cell_at : ℕ → List Vec3 → ℕ → GridCell
cell_at t places j = home_of (cube_at t places j)

abbrev pub same_cell : GridCell → GridCell → Bool
same_cell c d = c.z == d.z && c.y == d.y && c.x == d.x

-- each axis of a cell is below n
pub record Below (n : ℕ) (c : GridCell) : Type 0 where
  pub x : c.x < n
  pub y : c.y < n
  pub z : c.z < n

-- the number of the chain for a cell, of n, a power of two: cells beside each other on x have chains beside each other, or the
-- last and the first
unfoldable pub slot_of : ℕ → GridCell → ℕ
slot_of n c = bit_and ((c.y * 2654435769 + c.z * 2246822507) % 4294967296 / 2048 + c.x) (n - 1)

-- j stands behind i, is near it, and the test keeps the pair
abbrev pub keep : List Vec3 → ℕ → (ℕ → ℕ → Bool) → ℕ → ℕ → Bool
keep places t test i j = nat_lt j (length places) && nat_lt i j && is_near (pos t) (place_at places i) (place_at places j) && test i j

abbrev pub picked_one : Bool → ℕ → List ℕ
picked_one b j = if b then j ∷ [] else []

-- what the look-up of a cell finds
abbrev pub picked : List (List ℕ) → List Vec3 → ℕ → (ℕ → ℕ → Bool) → ℕ → GridCell → List ℕ
picked chains places t test i c =
    filter (λ j. same_cell c (cell_at t places j) && keep places t test i j) (chain_at chains (slot_of (length chains) c))

-- what the look-ups of cells find, one after another
unfoldable pub all_picked : List (List ℕ) → List Vec3 → ℕ → (ℕ → ℕ → Bool) → ℕ → List GridCell → List ℕ
all_picked chains places t test i cells = flat_map (picked chains places t test i) cells

-- the first k of the eight cells from a corner on
abbrev pub block_part : GridCell → ℕ → List GridCell
block_part corner k = map (λ n. beside corner (n % 2) (n / 2 % 2) (n / 4)) (range_with_len 0 k)

-- those behind i whose cells have chain s, of so many
abbrev pub sharing : ℕ → ℕ → List Vec3 → ℕ → ℕ → List ℕ
sharing count t places i s =
    filter (λ j. slot_of count (cell_at t places j) == s) (range_with_len (i + 1) (length places - (i + 1)))

-- each particle stands once in the chain for its cell
abbrev pub AreOnce : List (List ℕ) → ℕ → List Vec3 → Type 0
AreOnce chains t places = (q : ℕ) → q < length places → count q (chain_at chains (slot_of (length chains) (cell_at t places q))) ≡ 1

-- the numbers fall, and are below a number
abbrev pub IsFalling : ℕ → List ℕ → Type 0
IsFalling high [] = ⊤
IsFalling high (x ∷ xs) = (x < high) × IsFalling x xs

-- what look-ups rest on: the places and their cubes, and so many chains that hold the particles by their cells, falling
pub record AreLaid (chains : List (List ℕ)) (count : ℕ) (cubes : List GridCell) (places : List Vec3) (t : ℕ) : Type 0 where
  pub low : 0 < t
  pub high : t ≤ 1048576
  pub few : length places ≤ 65536
  pub inside : AllInside places
  pub cubes_are : cubes ≡ map (cube_of t) places
  pub some : 0 < count
  pub counted : length chains ≡ count
  pub once : AreOnce chains t places
  pub falling : (c : ℕ) → IsFalling (length places) (chain_at chains c)
  pub shared : (i s : ℕ) → s < count → length (filter (nat_lt i) (chain_at chains s)) ≡ length (sharing count t places i s)

-- the numbers behind i that are kept with it
abbrev pub kept_row : List Vec3 → ℕ → (ℕ → ℕ → Bool) → ℕ → List ℕ
kept_row places t test i = filter (keep places t test i) (range_with_len (i + 1) (length places - (i + 1)))
