-- A cloth, by row and column.
use Rattle.std.specs.Prelude.{ℕ, ◌+◌, ◌*◌, ◌^◌, ◌<◌, ◌≤◌, nat_le, nat_lt, ℤ, pos, ◌*ℤ◌, Bool, true, false, ◌&&◌, if◌then◌else◌, List, []}
use Rattle.std.specs.Prelude.{◌∷◌, ◌++◌, length}
use Rattle.pbd_num.specs.declared.Vec3.{Vec3}
use Rattle.pbd_num.specs.Vectors.{plus, minus, on_axes, Within, is_within, length_of}
use Rattle.pbd_world.specs.declared.parts.Particle.{Particle}
use Rattle.pbd_world.specs.declared.parts.Link.{Link}
use Rattle.pbd_world.specs.declared.parts.Kind.{Kind}
use Rattle.pbd_world.specs.declared.parts.Parts.{Parts}
use Rattle.pbd_world.specs.declared.parts.Kind.TheVariants.{Stretch, Shear, Bend, Plain}
use Rattle.pbd_mesh.specs.Ranges.{is_count_between, is_length}
use Rattle.pbd_mesh.specs.declared.spec.ClothSpec.{ClothSpec}
use Rattle.pbd_mesh.specs.declared.spec.Cell.{Cell}
use Rattle.pbd_mesh.specs.declared.spec.KindSettings.{KindSettings}
use Rattle.pbd_mesh.specs.Numbered.{concatenated, all_below}
use Rattle.pbd_mesh.specs.Appending.{with_more}

abbrev pub times : ℕ → Vec3 → Vec3
times n v = on_axes (λ axis. pos n *ℤ axis) v

-- a free particle at rest
abbrev pub resting : Vec3 → ℕ → Particle
resting at weight = record { at = at; before = at; weight = weight; held = false }

-- the place of row r and column c
unfoldable pub cloth_place : ClothSpec → ℕ → ℕ → Vec3
cloth_place s r c = plus (plus s.origin (times c s.across)) (times r s.down)

-- those of row r, column by column
abbrev pub row_particles : ClothSpec → ℕ → List Particle
row_particles s r = concatenated s.columns (λ c. resting (cloth_place s r c) s.weight ∷ [])

-- row by row
unfoldable pub cloth_particles : ClothSpec → List Particle
cloth_particles s = concatenated s.rows (λ r. row_particles s r)

abbrev pub is_in_cloth : ClothSpec → Cell → Bool
is_in_cloth s cell = nat_lt cell.row s.rows && nat_lt cell.column s.columns

pub record IsCell (s : ClothSpec) (cell : Cell) : Type 0 where
  pub row : cell.row < s.rows
  pub column : cell.column < s.columns

-- the number of a cell's particle, where the cloth's first has the number base
abbrev pub number : ClothSpec → ℕ → Cell → ℕ
number s base cell = base + cell.row * s.columns + cell.column

-- the link of particles a and b, at the length between their places
abbrev pub link_between : KindSettings → ℕ → Vec3 → ℕ → Vec3 → Link
link_between t a p b q = record {
  a = a;
  b = b;
  rest = pos (length_of (minus p q));
  k = t.k;
  tear = t.tear;
  kind = t.kind;
  live = true;
}

-- the link of two cells, whether they are in the cloth or not
abbrev pub link_of_cells : ClothSpec → ℕ → KindSettings → Cell → Cell → Link
link_of_cells s base t from to =
    link_between t (number s base from) (cloth_place s from.row from.column) (number s base to) (cloth_place s to.row to.column)

-- the link of two cells where both are in the cloth
unfoldable pub cell_link : ClothSpec → ℕ → KindSettings → Cell → Cell → List Link
cell_link s base t from to = if is_in_cloth s from && is_in_cloth s to then link_of_cells s base t from to ∷ [] else []

abbrev pub cell : ℕ → ℕ → Cell
cell r c = record { row = r; column = c }

-- the stiffness and the tear length of a kind
abbrev pub cloth_settings : ClothSpec → Kind → KindSettings
cloth_settings s Stretch = record { kind = Stretch; k = s.stretch; tear = s.stretch_tear }
cloth_settings s Shear = record { kind = Shear; k = s.shear; tear = s.shear_tear }
cloth_settings s Bend = record { kind = Bend; k = s.bend; tear = s.bend_tear }
cloth_settings s Plain = record { kind = Plain; k = 0; tear = pos 0 }

-- the links of a kind that begin at a cell, along the row before down the column; for shear, both diagonals of the square
-- that begins there
unfoldable pub links_of_cell : ClothSpec → ℕ → Kind → ℕ → ℕ → List Link
links_of_cell s base Stretch r c =
    cell_link s base (cloth_settings s Stretch) (cell r c) (cell r (c + 1))
    ++ cell_link s base (cloth_settings s Stretch) (cell r c) (cell (r + 1) c)
links_of_cell s base Shear r c =
    cell_link s base (cloth_settings s Shear) (cell r c) (cell (r + 1) (c + 1))
    ++ cell_link s base (cloth_settings s Shear) (cell r (c + 1)) (cell (r + 1) c)
links_of_cell s base Bend r c =
    cell_link s base (cloth_settings s Bend) (cell r c) (cell r (c + 2))
    ++ cell_link s base (cloth_settings s Bend) (cell r c) (cell (r + 2) c)
links_of_cell s base Plain r c = []

-- row by row
unfoldable pub links_of_kind : ClothSpec → ℕ → Kind → List Link
links_of_kind s base kind = concatenated s.rows (λ r. concatenated s.columns (λ c. links_of_cell s base kind r c))

unfoldable pub cloth_links : ClothSpec → ℕ → List Link
cloth_links s base = links_of_kind s base Stretch ++ links_of_kind s base Shear ++ links_of_kind s base Bend

-- parts with a cloth after their own particles and links
abbrev pub with_cloth : Parts → ClothSpec → Parts
with_cloth parts s = with_more parts (cloth_particles s) (cloth_links s (length parts.particles))

-- each number is in its range
unfoldable pub cloth_vectors_fit : ℤ → ClothSpec → Bool
cloth_vectors_fit limit s = is_within limit s.origin && is_within limit s.across && is_within limit s.down

unfoldable pub cloth_counts_fit : ClothSpec → Bool
cloth_counts_fit s = is_count_between 1 256 s.rows && is_count_between 1 256 s.columns && is_count_between 1 65535 s.weight

unfoldable pub cloth_settings_fit : ClothSpec → Bool
cloth_settings_fit s = nat_le s.stretch 256 && nat_le s.shear 256 && nat_le s.bend 256

unfoldable pub cloth_tears_fit : ℤ → ClothSpec → Bool
cloth_tears_fit limit s = is_length limit s.stretch_tear && is_length limit s.shear_tear && is_length limit s.bend_tear

unfoldable pub cloth_in_ranges : ℤ → ClothSpec → Bool
cloth_in_ranges limit s = cloth_vectors_fit limit s && cloth_counts_fit s && cloth_settings_fit s && cloth_tears_fit limit s

-- the sizes of its numbers, as facts
pub record ClothBounds (s : ClothSpec) : Type 0 where
  pub rows : s.rows ≤ 256
  pub columns : s.columns ≤ 256
  pub origin : Within (2 ^ 29) s.origin
  pub across : Within (2 ^ 29) s.across
  pub down : Within (2 ^ 29) s.down

-- and where its particles are
pub record ClothFacts (s : ClothSpec) : Type 0 where
  pub bounds : ClothBounds s
  pub place : (r c : ℕ) → r < s.rows → c < s.columns → Within (2 ^ 29) (cloth_place s r c)

-- each particle is within the limit
unfoldable pub cloth_is_inside : ℤ → ClothSpec → Bool
cloth_is_inside limit s = all_below s.rows (λ r. all_below s.columns (λ c. is_within limit (cloth_place s r c)))

unfoldable pub cloth_fits : ℤ → ClothSpec → Bool
cloth_fits limit s = cloth_in_ranges limit s && cloth_is_inside limit s
