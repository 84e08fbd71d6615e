-- Cloths and ropes that fit are valid.
use Rattle.std.proofs.Common.{◌≡◌, sym, refl, ℕ, ◌+◌, ◌-◌, ◌*◌, ◌/◌, ◌%◌, ◌<◌, ◌≤◌, ◌⊎◌, inl, inr, Bool, true, false, ◌==◌, ◌&&◌, ◌||◌, ℤ}
use Rattle.std.proofs.Common.{pos, ◌≤ℤ◌, ◌*ℤ◌, ◌-ℤ◌, unsigned_abs, List, [], ◌∷◌, ◌++◌, length, arith}
use Rattle.std.specs.Prelude.{IsTrue, filter, nat_le, nat_lt, not}
use Rattle.std.proofs.lemmas.Int.{ints}
use Rattle.std.proofs.lemmas.Bool.{and_parts, cases_Bool, cases_lt, ne_eqb, or_from, lt-ltb, le-leb, and_from}
use Rattle.std.proofs.lemmas.Bool.Decides.{nat_tests}
use Rattle.std.proofs.lemmas.List.{length-append}
use Rattle.pbd_num.specs.declared.Vec3.{Vec3}
use Rattle.pbd_num.specs.Vectors.{Within, is_within, minus, squared_length, length_of}
use Rattle.pbd_num.proofs.Sizes.{size-sub, pos_size}
use Rattle.pbd_num.proofs.Ranges.{within_facts}
use Rattle.pbd_num.proofs.Lengths.{squared_length_le}
use Rattle.pbd_num.proofs.RoundingLemmas.{root_below}
use Rattle.pbd_world.specs.declared.parts.Particle.{Particle}
use Rattle.pbd_world.specs.declared.parts.Link.{Link}
use Rattle.pbd_world.specs.declared.parts.Kind.{Kind}
use Rattle.pbd_world.specs.declared.parts.Kind.TheVariants.{Stretch, Shear, Bend}
use Rattle.pbd_world.specs.Valid.{is_limit, is_between, is_valid_link, none_twice, join_alike, links_at}
use Rattle.pbd_mesh.specs.declared.spec.ClothSpec.{ClothSpec}
use Rattle.pbd_mesh.specs.declared.spec.RopeSpec.{RopeSpec}
use Rattle.pbd_mesh.specs.declared.spec.Cell.{Cell}
use Rattle.pbd_mesh.specs.declared.spec.KindSettings.{KindSettings}
use Rattle.pbd_mesh.specs.Numbered.{concatenated, all_below}
use Rattle.pbd_mesh.specs.Cloth.{cell, cell_link, cloth_fits, cloth_in_ranges, cloth_counts_fit, cloth_settings_fit, cloth_tears_fit}
use Rattle.pbd_mesh.specs.Cloth.{cloth_vectors_fit, cloth_is_inside, cloth_links, cloth_particles, cloth_place, cloth_settings, is_in_cloth}
use Rattle.pbd_mesh.specs.Cloth.{link_of_cells, links_of_cell, links_of_kind, resting}
use Rattle.pbd_mesh.specs.Rope.{rope_chain, rope_counts_fit, rope_fits, rope_in_ranges, rope_is_inside, rope_link, rope_links}
use Rattle.pbd_mesh.specs.Rope.{rope_particles, rope_place, rope_settings_fit}
use Rattle.pbd_mesh.specs.Meshes.{is_free_and_valid, is_mesh_link, IsMesh}
use Rattle.pbd_mesh.proofs.Below.{below}
use Rattle.pbd_mesh.proofs.Corners.{Shaped, Corner, row_before, cell_of, same_shape, other_corners, other_totals, diagonal_not_bend}
use Rattle.pbd_mesh.proofs.Corners.{other_rows, other_columns}
use Rattle.pbd_mesh.proofs.Every.{Every, every_none, every_one, every_both, every_more, every_concatenated, every_test, Apart, apart_from}
use Rattle.pbd_mesh.proofs.Every.{apart_both, once_none, once_one, once_both, once_concatenated, count_both, count_none, count_concatenated}
use Rattle.pbd_mesh.proofs.Every.{length_concatenated, concatenated_most}
use Rattle.pbd_mesh.proofs.Facts.{limit_bounds, in_cloth}

-- ---- the corners of a cloth's links

cell_every : (P : Link → Type 0) (s : ClothSpec) (base : ℕ) (t : KindSettings) (from to : Cell)
    → (true ≡ is_in_cloth s from → true ≡ is_in_cloth s to → P (link_of_cells s base t from to)) → Every P (cell_link s base t from to)
unfolding cell_link
cell_every P s base t from to h = elim (cases_Bool (is_in_cloth s from && is_in_cloth s to)) [
  | inl e ↦ (let tests = and_parts (is_in_cloth s from) (is_in_cloth s to) e in
      rw e (every_one P (link_of_cells s base t from to) (h (sym tests.0) (sym tests.1))))
  | inr e ↦ rw e (every_none P)
]

cell_once : (s : ClothSpec) (base : ℕ) (t : KindSettings) (from to : Cell) → IsTrue (none_twice join_alike (cell_link s base t from to))
unfolding cell_link
cell_once s base t from to = elim (cases_Bool (is_in_cloth s from && is_in_cloth s to)) [
  | inl e ↦ rw e (once_one join_alike (link_of_cells s base t from to))
  | inr e ↦ rw e (once_none join_alike)
]

cell_most : (s : ClothSpec) (base : ℕ) (t : KindSettings) (from to : Cell) → length (cell_link s base t from to) ≤ 1
unfolding cell_link
cell_most s base t from to = elim (cases_Bool (is_in_cloth s from && is_in_cloth s to))
    [ inl e ↦ rw e (omega arith) | inr e ↦ rw e (omega arith) ]

cell_shaped : (s : ClothSpec) (base : ℕ) (t : KindSettings) (r h c d q : ℕ) → q ≡ r + h → (h ≡ 0 → c < d) → true ≡ is_in_cloth s (cell r c)
    → true ≡ is_in_cloth s (cell q d) → Shaped s.columns base r h c d (link_of_cells s base t (cell r c) (cell q d))
cell_shaped s base t r h c d q is ordered from to = record {
  a = refl;
  b = rw is refl;
  first_within = (in_cloth s (cell r c) from).column;
  second_within = (in_cloth s (cell q d) to).column;
  ordered = ordered;
}

-- the shape of each of a cell's links
shape_at : (s : ClothSpec) (base : ℕ) (t : KindSettings) (r h c d q : ℕ) → q ≡ r + h → (h ≡ 0 → c < d)
    → Every (Shaped s.columns base r h c d) (cell_link s base t (cell r c) (cell q d))
shape_at s base t r h c d q is ordered = cell_every (Shaped s.columns base r h c d) s base t (cell r c) (cell q d)
    (λ from to. cell_shaped s base t r h c d q is ordered from to)

corner_at : (s : ClothSpec) (base : ℕ) (t : KindSettings) (r h c d q total span corner w : ℕ) → q ≡ r + h → (h ≡ 0 → c < d) → h + w ≡ total
    → (h ≡ 0) ⊎ (h ≡ span) → (w ≡ 0) ⊎ (w ≡ span) → ((c ≡ corner) × (d ≡ corner + w)) ⊎ ((c ≡ corner + w) × (d ≡ corner))
    → Every (Corner s.columns base total span r corner) (cell_link s base t (cell r c) (cell q d))
corner_at s base t r h c d q total span corner w is ordered sum tall wide ends =
    every_more (Shaped s.columns base r h c d) (Corner s.columns base total span r corner) (cell_link s base t (cell r c) (cell q d))
    (λ l p. record { h = h; w = w; first = c; second = d; shaped = p; sum = sum; tall = tall; wide = wide; ends = ends })
    (shape_at s base t r h c d q is ordered)

-- two links of one cell are not alike where their shapes differ
shapes_apart : (W base r h c d g u v : ℕ) (xs ys : List Link) → (h ≡ g → c ≡ u → ⊥) → Every (Shaped W base r h c d) xs
    → Every (Shaped W base r g u v) ys → Apart join_alike xs ys
shapes_apart W base r h c d g u v xs ys differ hx hy = apart_from join_alike (Shaped W base r h c d) (Shaped W base r g u v) xs ys
    (λ l m p t. elim (cases_Bool (join_alike l m)) [
      | inl e ↦
          (let same = same_shape W base r h c d r g u v l m p t e in absurd (differ same.1 same.2))
      | inr e ↦ e
    ]) hx hy

-- what the links of a cell have in common
pub record CellFacts (s : ClothSpec) (base : ℕ) (kind : Kind) (total span r c : ℕ) : Type 0 where
  pub corners : Every (Corner s.columns base total span r c) (links_of_cell s base kind r c)
  pub once : IsTrue (none_twice join_alike (links_of_cell s base kind r c))
  pub most : length (links_of_cell s base kind r c) ≤ 2

two_most : (xs ys : List Link) → length xs ≤ 1 → length ys ≤ 1 → length (xs ++ ys) ≤ 2
two_most xs ys h k = omega (arith, length-append xs ys)

-- two links from a cell, so far along the row and so far down the column
straight_cell : (s : ClothSpec) (base : ℕ) (kind : Kind) (far r c : ℕ) → 0 < far
    → links_of_cell s base kind r c ≡ cell_link s base (cloth_settings s kind) (cell r c) (cell r (c + far))
    ++ cell_link s base (cloth_settings s kind) (cell r c) (cell (r + far) c) → CellFacts s base kind far far r c
straight_cell s base kind far r c some is =
    let t = cloth_settings s kind in
    let xs = cell_link s base t (cell r c) (cell r (c + far)) in
    let ys = cell_link s base t (cell r c) (cell (r + far) c) in
    record {
      corners = rw is (every_both (Corner s.columns base far far r c) xs ys
          (corner_at s base t r 0 c (c + far) r far far c far (omega arith) (λ e. omega arith) (omega arith) (inl refl) (inr refl) (inl (refl, refl)))
          (corner_at s base t r far c c (r + far) far far c 0 refl (λ e. absurd (omega arith)) (omega arith) (inr refl) (inl refl)
          (inl (refl, omega arith))));
      once = rw is (once_both join_alike xs ys (cell_once s base t (cell r c) (cell r (c + far)))
          (cell_once s base t (cell r c) (cell (r + far) c))
          (shapes_apart s.columns base r 0 c (c + far) far c c xs ys (λ e f. omega arith)
          (shape_at s base t r 0 c (c + far) r (omega arith) (λ e. omega arith))
          (shape_at s base t r far c c (r + far) refl (λ e. absurd (omega arith)))));
      most = rw is (two_most xs ys (cell_most s base t (cell r c) (cell r (c + far))) (cell_most s base t (cell r c) (cell (r + far) c)));
    }

stretch_cell : (s : ClothSpec) (base r c : ℕ) → CellFacts s base Stretch 1 1 r c
unfolding links_of_cell
stretch_cell s base r c = straight_cell s base Stretch 1 r c (omega arith) refl

bend_cell : (s : ClothSpec) (base r c : ℕ) → CellFacts s base Bend 2 2 r c
unfolding links_of_cell
bend_cell s base r c = straight_cell s base Bend 2 r c (omega arith) refl

shear_cell : (s : ClothSpec) (base r c : ℕ) → CellFacts s base Shear 2 1 r c
unfolding links_of_cell
shear_cell s base r c =
    let t = cloth_settings s Shear in
    let xs = cell_link s base t (cell r c) (cell (r + 1) (c + 1)) in
    let ys = cell_link s base t (cell r (c + 1)) (cell (r + 1) c) in
    record {
      corners = every_both (Corner s.columns base 2 1 r c) xs ys
          (corner_at s base t r 1 c (c + 1) (r + 1) 2 1 c 1 refl (λ e. omega arith) refl (inr refl) (inr refl) (inl (refl, refl)))
          (corner_at s base t r 1 (c + 1) c (r + 1) 2 1 c 1 refl (λ e. absurd (omega arith)) refl (inr refl) (inr refl) (inr (refl, refl)));
      once = once_both join_alike xs ys (cell_once s base t (cell r c) (cell (r + 1) (c + 1)))
          (cell_once s base t (cell r (c + 1)) (cell (r + 1) c))
          (shapes_apart s.columns base r 1 c (c + 1) 1 (c + 1) c xs ys (λ e f. omega arith)
          (shape_at s base t r 1 c (c + 1) (r + 1) refl (λ e. omega arith))
          (shape_at s base t r 1 (c + 1) c (r + 1) refl (λ e. absurd (omega arith))));
      most = two_most xs ys (cell_most s base t (cell r c) (cell (r + 1) (c + 1))) (cell_most s base t (cell r (c + 1)) (cell (r + 1) c));
    }

-- ---- the links of a kind

-- a corner in some cell
pub record SomeCorner (W base total span : ℕ) (l : Link) : Type 0 where
  pub row : ℕ
  pub column : ℕ
  pub corner : Corner W base total span row column l

-- what the links of a kind, or of a chain of a rope, have in common
pub record Lattice (W base total span : ℕ) (ls : List Link) : Type 0 where
  pub corners : Every (SomeCorner W base total span) ls
  pub once : IsTrue (none_twice join_alike ls)
  pub few : (i : ℕ) → links_at ls i ≤ 8

-- no link is at a particle before the first
none_before : (W base total span i : ℕ) (ls : List Link) → i < base → Every (SomeCorner W base total span) ls → links_at ls i ≡ 0
none_before W base total span i ls before corners = count_none (λ l. l.a == i || l.b == i) ls
    (every_more (SomeCorner W base total span) (λ l. (l.a == i || l.b == i) ≡ false) ls
    (λ l p. or_from (l.a == i) (l.b == i) (ne_eqb l.a i (λ e. omega (arith, e, p.corner.shaped.a)))
    (ne_eqb l.b i (λ e. omega (arith, e, p.corner.shaped.b))))
    corners)

some : (W base total span r c : ℕ) (l : Link) → Corner W base total span r c l → SomeCorner W base total span l
some W base total span r c l p = record { row = r; column = c; corner = p }

row_corners : (s : ClothSpec) (base : ℕ) (kind : Kind) (total span r : ℕ) → ((r c : ℕ) → CellFacts s base kind total span r c)
    → Every (SomeCorner s.columns base total span) (concatenated s.columns (λ c. links_of_cell s base kind r c))
row_corners s base kind total span r cells = every_concatenated (SomeCorner s.columns base total span) s.columns
    (λ c. links_of_cell s base kind r c) (λ c w. every_more (Corner s.columns base total span r c) (SomeCorner s.columns base total span)
    (links_of_cell s base kind r c) (some s.columns base total span r c) ((cells r c).corners))

kind_corners : (s : ClothSpec) (base : ℕ) (kind : Kind) (total span : ℕ) → ((r c : ℕ) → CellFacts s base kind total span r c)
    → Every (SomeCorner s.columns base total span) (links_of_kind s base kind)
unfolding links_of_kind
kind_corners s base kind total span cells = every_concatenated (SomeCorner s.columns base total span) s.rows
    (λ r. concatenated s.columns (λ c. links_of_cell s base kind r c)) (λ r w. row_corners s base kind total span r cells)

-- the corners of a row
record InRow (W base total span r : ℕ) (l : Link) : Type 0 where
  pub column : ℕ
  pub corner : Corner W base total span r column l

in_row : (s : ClothSpec) (base : ℕ) (kind : Kind) (total span r : ℕ) → ((r c : ℕ) → CellFacts s base kind total span r c)
    → Every (InRow s.columns base total span r) (concatenated s.columns (λ c. links_of_cell s base kind r c))
in_row s base kind total span r cells = every_concatenated (InRow s.columns base total span r) s.columns
    (λ c. links_of_cell s base kind r c) (λ c w. every_more (Corner s.columns base total span r c) (InRow s.columns base total span r)
    (links_of_cell s base kind r c) (λ l p. record { column = c; corner = p }) ((cells r c).corners))

kind_once : (s : ClothSpec) (base : ℕ) (kind : Kind) (total span : ℕ) → ((r c : ℕ) → CellFacts s base kind total span r c)
    → IsTrue (none_twice join_alike (links_of_kind s base kind))
unfolding links_of_kind
kind_once s base kind total span cells = once_concatenated join_alike s.rows
    (λ r. concatenated s.columns (λ c. links_of_cell s base kind r c))
    (λ r w. once_concatenated join_alike s.columns (λ c. links_of_cell s base kind r c)
    (λ c v. (cells r c).once)
    (λ c d before v. apart_from join_alike (Corner s.columns base total span r c) (Corner s.columns base total span r d)
    (links_of_cell s base kind r c) (links_of_cell s base kind r d)
    (λ l m p t. other_corners s.columns base total span r c r d l m (λ e f. omega (arith, before, f)) p t) ((cells r c).corners)
    ((cells r d).corners)))
    (λ r q before v. apart_from join_alike (InRow s.columns base total span r) (InRow s.columns base total span q)
    (concatenated s.columns (λ c. links_of_cell s base kind r c)) (concatenated s.columns (λ c. links_of_cell s base kind q c))
    (λ l m p t. other_corners s.columns base total span r p.column q t.column l m (λ e f. omega (arith, before, e)) p.corner t.corner)
    (in_row s base kind total span r cells) (in_row s base kind total span q cells))

at_most_length : (test : Link → Bool) (ls : List Link) → length (filter test ls) ≤ length ls
at_most_length test [] = omega arith
at_most_length test (l ∷ ls) = elim (cases_Bool (test l))
    [ inl e ↦ rw e (omega (arith, at_most_length test ls)) | inr e ↦ rw e (omega (arith, at_most_length test ls)) ]

row_few : (s : ClothSpec) (base : ℕ) (kind : Kind) (total span r x y i : ℕ) → ((r c : ℕ) → CellFacts s base kind total span r c)
    → y < s.columns → i ≡ base + x * s.columns + y → links_at (concatenated s.columns (λ c. links_of_cell s base kind r c)) i ≤ 4
row_few s base kind total span r x y i cells within is =
    count_concatenated (λ l. l.a == i || l.b == i) s.columns (λ c. links_of_cell s base kind r c) 2 y (y - span)
    (λ c w. omega (arith, at_most_length (λ l. l.a == i || l.b == i) (links_of_cell s base kind r c), (cells r c).most))
    (λ c w here before. count_none (λ l. l.a == i || l.b == i) (links_of_cell s base kind r c)
    (every_more (Corner s.columns base total span r c) (λ l. (l.a == i || l.b == i) ≡ false) (links_of_cell s base kind r c)
    (λ l p. other_columns s.columns base total span r c x y i l p within is here before) ((cells r c).corners)))

kind_few_at : (s : ClothSpec) (base : ℕ) (kind : Kind) (total span x y i : ℕ) → ((r c : ℕ) → CellFacts s base kind total span r c)
    → y < s.columns → i ≡ base + x * s.columns + y → links_at (links_of_kind s base kind) i ≤ 8
unfolding links_of_kind
kind_few_at s base kind total span x y i cells within is =
    count_concatenated (λ l. l.a == i || l.b == i) s.rows (λ r. concatenated s.columns (λ c. links_of_cell s base kind r c)) 4 x (x - span)
    (λ r w. row_few s base kind total span r x y i cells within is)
    (λ r w here before. count_none (λ l. l.a == i || l.b == i) (concatenated s.columns (λ c. links_of_cell s base kind r c))
    (every_more (InRow s.columns base total span r) (λ l. (l.a == i || l.b == i) ≡ false)
    (concatenated s.columns (λ c. links_of_cell s base kind r c))
    (λ l p. other_rows s.columns base total span r p.column x y i l p.corner within is here before)
    (in_row s base kind total span r cells)))

-- the row and column of a particle's number
placed : (W base i : ℕ) → 0 < W → base ≤ i → i ≡ base + ((i - base) / W) * W + (i - base) % W
placed W base i h k = omega arith

pub kind_lattice : (s : ClothSpec) (base : ℕ) (kind : Kind) (total span : ℕ) → 0 < s.columns
    → ((r c : ℕ) → CellFacts s base kind total span r c) → Lattice s.columns base total span (links_of_kind s base kind)
kind_lattice s base kind total span wide cells = record {
  corners = kind_corners s base kind total span cells;
  once = kind_once s base kind total span cells;
  few = λ i. elim (cases_lt i base) [
    | inl before ↦ omega (
      arith,
      none_before s.columns base total span i (links_of_kind s base kind) before
          (kind_corners s base kind total span cells),
    )
    | inr after ↦ (let k : base ≤ i = omega arith in kind_few_at s base kind total span ((i - base) / s.columns)
        ((i - base) % s.columns) i cells (omega arith) (placed s.columns base i wide k))
  ];
}

-- ---- what is valid

differ_test : (m n : ℕ) → (m ≡ n → ⊥) → not (m == n) ≡ true
differ_test m n h = rw (ne_eqb m n h) refl

-- a length between two places within the limit
length_fits : (limit : ℤ) (n : ℕ) → pos 0 ≤ℤ limit → n ≤ 4 * unsigned_abs limit → IsTrue (is_between (pos 0) (pos 4 *ℤ limit) (pos n))
length_fits limit n low high = let e = pos_size limit low in grind (arith, ints, nat_tests, e)

apart_axis : (a b : ℤ) (m : ℕ) → unsigned_abs a ≤ m → unsigned_abs b ≤ m → unsigned_abs (a -ℤ b) ≤ m + m
apart_axis a b m h k = omega (arith, size-sub a b)

pub rest_fits : (limit : ℤ) (p q : Vec3) → pos 0 ≤ℤ limit → IsTrue (is_within limit p) → IsTrue (is_within limit q)
    → IsTrue (is_between (pos 0) (pos 4 *ℤ limit) (pos (length_of (minus p q))))
rest_fits limit p q low hp hq =
    let m = unsigned_abs limit in
    let a = (within_facts limit p low).0 hp in
    let b = (within_facts limit q low).0 hq in
    let w : Within (m + m) (minus p q) = record {
      x = apart_axis p.x q.x m a.x b.x;
      y = apart_axis p.y q.y m a.y b.y;
      z = apart_axis p.z q.z m a.z b.z;
    } in
    let small : squared_length (minus p q) < (4 * m + 1) * (4 * m + 1) = omega (arith, squared_length_le (minus p q) (m + m) w) in
    length_fits limit (length_of (minus p q)) low (omega (arith, root_below (squared_length (minus p q)) (4 * m + 1) small))

free_particle : (limit : ℤ) (at : Vec3) (weight : ℕ) → IsTrue (is_within limit at) → IsTrue (nat_le 1 weight && nat_le weight 65535)
    → IsTrue (is_free_and_valid limit (resting at weight))
free_particle limit at weight inside range = let w = and_parts (nat_le 1 weight) (nat_le weight 65535) range in rw (inside, w.0, w.1) refl

-- a link of two cells that have different numbers
link_valid : (limit : ℤ) (base end : ℕ) (l : Link) → l.live ≡ true → base ≤ l.a → base ≤ l.b → l.a < end → l.b < end → (l.a ≡ l.b → ⊥)
    → IsTrue (is_between (pos 0) (pos 4 *ℤ limit) l.rest) → IsTrue (is_between (pos 0) (pos 4 *ℤ limit) l.tear) → nat_le l.k 256 ≡ true
    → IsTrue (is_mesh_link limit base end l)
link_valid limit base end l live a b under below_end differ rest tear k =
    and_from (l.live && nat_le base l.a && nat_le base l.b) (is_valid_link limit end l)
    (and_from (l.live && nat_le base l.a) (nat_le base l.b) (and_from l.live (nat_le base l.a) live (le-leb base l.a a))
    (le-leb base l.b b))
    (and_from (nat_lt l.a end && nat_lt l.b end && not (l.a == l.b) && is_between (pos 0) (pos 4 *ℤ limit) l.rest
    && is_between (pos 0) (pos 4 *ℤ limit) l.tear) (nat_le l.k 256)
    (and_from (nat_lt l.a end && nat_lt l.b end && not (l.a == l.b) && is_between (pos 0) (pos 4 *ℤ limit) l.rest)
    (is_between (pos 0) (pos 4 *ℤ limit) l.tear)
    (and_from (nat_lt l.a end && nat_lt l.b end && not (l.a == l.b)) (is_between (pos 0) (pos 4 *ℤ limit) l.rest)
    (and_from (nat_lt l.a end && nat_lt l.b end) (not (l.a == l.b))
    (and_from (nat_lt l.a end) (nat_lt l.b end) (lt-ltb l.a end under) (lt-ltb l.b end below_end))
    (differ_test l.a l.b differ))
    rest)
    tear)
    k)

-- the ends of a link of a shape are two different particles of the grid
shape_ends : (W base r h c d rows : ℕ) (l : Link) → Shaped W base r h c d l → r < rows → r + h < rows
    → (l.a < base + rows * W) × (l.b < base + rows * W) × (l.a ≡ l.b → ⊥)
shape_ends W base r h c d rows l p within under = (
  omega (arith, p.a, p.first_within, row_before W r rows within),
  omega (arith, p.b, p.second_within, row_before W (r + h) rows under),
  (λ e. let same = cell_of W r (r + h) c d p.first_within p.second_within (omega (arith, e, p.a, p.b)) in
      absurd (omega (arith, same.0, same.1, p.ordered (omega (arith, same.0))))),
)

-- what is asked of the limit and of a free particle's weight
record FreeTests (limit : ℤ) (w : ℕ) : Type 0 where
  pub low : pos 0 ≤ℤ limit
  pub weight : IsTrue (nat_le 1 w && nat_le w 65535)

-- what is asked of a kind's stiffness and tear length
record AreSettings (limit : ℤ) (t : KindSettings) : Type 0 where
  pub k : nat_le t.k 256 ≡ true
  pub tear : IsTrue (is_between (pos 0) (pos 4 *ℤ limit) t.tear)

-- what a cloth that fits has
record ClothTests (limit : ℤ) (s : ClothSpec) : Type 0 where
  pub free : FreeTests limit s.weight
  pub wide : 0 < s.columns
  pub stretch : AreSettings limit (cloth_settings s Stretch)
  pub shear : AreSettings limit (cloth_settings s Shear)
  pub bend : AreSettings limit (cloth_settings s Bend)
  pub inside : (r c : ℕ) → r < s.rows → c < s.columns → IsTrue (is_within limit (cloth_place s r c))

at_least : (low high n : ℕ) → IsTrue (nat_le low n && nat_le n high) → low ≤ n
at_least low high n t = grind (arith, nat_tests)

cloth_tests : (limit : ℤ) (s : ClothSpec) → IsTrue (is_limit limit) → IsTrue (cloth_fits limit s) → ClothTests limit s
unfolding cloth_fits cloth_in_ranges cloth_counts_fit cloth_settings_fit cloth_tears_fit cloth_is_inside
cloth_tests limit s is fits =
    let h = and_parts (cloth_in_ranges limit s) (cloth_is_inside limit s) fits in
    let t3 = and_parts (cloth_vectors_fit limit s && cloth_counts_fit s && cloth_settings_fit s) (cloth_tears_fit limit s) h.0 in
    let t2 = and_parts (cloth_vectors_fit limit s && cloth_counts_fit s) (cloth_settings_fit s) t3.0 in
    let t1 = and_parts (cloth_vectors_fit limit s) (cloth_counts_fit s) t2.0 in
    let c2 = and_parts ((nat_le 1 s.rows && nat_le s.rows 256) && (nat_le 1 s.columns && nat_le s.columns 256))
    (nat_le 1 s.weight && nat_le s.weight 65535) t1.1 in
    let c1 = and_parts (nat_le 1 s.rows && nat_le s.rows 256) (nat_le 1 s.columns && nat_le s.columns 256) c2.0 in
    let k2 = and_parts (nat_le s.stretch 256 && nat_le s.shear 256) (nat_le s.bend 256) t2.1 in
    let k1 = and_parts (nat_le s.stretch 256) (nat_le s.shear 256) k2.0 in
    let e2 = and_parts (is_between (pos 0) (pos 4 *ℤ limit) s.stretch_tear && is_between (pos 0) (pos 4 *ℤ limit) s.shear_tear)
    (is_between (pos 0) (pos 4 *ℤ limit) s.bend_tear) t3.1 in
    let e1 = and_parts (is_between (pos 0) (pos 4 *ℤ limit) s.stretch_tear) (is_between (pos 0) (pos 4 *ℤ limit) s.shear_tear) e2.0 in
    record {
      free = record { low = (limit_bounds limit is).0; weight = c2.1 };
      wide = omega (arith, at_least 1 256 s.columns c1.1);
      stretch = record { k = k1.0; tear = e1.0 };
      shear = record { k = k1.1; tear = e1.1 };
      bend = record { k = k2.1; tear = e2.1 };
      inside = λ r c row column. below s.columns (λ c. is_within limit (cloth_place s r c)) c
          (below s.rows (λ r. all_below s.columns (λ c. is_within limit (cloth_place s r c))) r h.1 row) column;
    }

-- ---- cloths

cell_valid : (limit : ℤ) (s : ClothSpec) (base : ℕ) (t : KindSettings) (r h c d q : ℕ) → ClothTests limit s → AreSettings limit t
    → q ≡ r + h → (h ≡ 0 → c < d) → Every (λ l. IsTrue (is_mesh_link limit base (base + s.rows * s.columns) l))
    (cell_link s base t (cell r c) (cell q d))
cell_valid limit s base t r h c d q tests settings is ordered =
    cell_every (λ l. IsTrue (is_mesh_link limit base (base + s.rows * s.columns) l)) s base t (cell r c) (cell q d)
    (λ from to.
    let l = link_of_cells s base t (cell r c) (cell q d) in
    let f = in_cloth s (cell r c) from in
    let g = in_cloth s (cell q d) to in
    let p = cell_shaped s base t r h c d q is ordered from to in
    let ends = shape_ends s.columns base r h c d s.rows l p f.row (omega (arith, is, g.row)) in
    link_valid limit base (base + s.rows * s.columns) l refl (omega (arith, p.a)) (omega (arith, p.b)) ends.0 ends.1 ends.2
    (rest_fits limit (cloth_place s r c) (cloth_place s q d) tests.free.low (tests.inside r c f.row f.column) (tests.inside q d g.row g.column))
    settings.tear settings.k)

kind_valid : (limit : ℤ) (s : ClothSpec) (base : ℕ) (kind : Kind)
    → ((r c : ℕ) → Every (λ l. IsTrue (is_mesh_link limit base (base + s.rows * s.columns) l)) (links_of_cell s base kind r c))
    → Every (λ l. IsTrue (is_mesh_link limit base (base + s.rows * s.columns) l)) (links_of_kind s base kind)
unfolding links_of_kind
kind_valid limit s base kind cells = let P = λ (l : Link). IsTrue (is_mesh_link limit base (base + s.rows * s.columns) l) in
    every_concatenated P s.rows (λ r. concatenated s.columns (λ c. links_of_cell s base kind r c))
    (λ r w. every_concatenated P s.columns (λ c. links_of_cell s base kind r c) (λ c v. cells r c))

cloth_valid : (limit : ℤ) (s : ClothSpec) (base : ℕ) → ClothTests limit s
    → Every (λ l. IsTrue (is_mesh_link limit base (base + s.rows * s.columns) l)) (cloth_links s base)
unfolding cloth_links links_of_cell
cloth_valid limit s base tests =
    let P = λ (l : Link). IsTrue (is_mesh_link limit base (base + s.rows * s.columns) l) in
    every_both P (links_of_kind s base Stretch ++ links_of_kind s base Shear) (links_of_kind s base Bend)
    (every_both P (links_of_kind s base Stretch) (links_of_kind s base Shear)
    (kind_valid limit s base Stretch (λ r c. every_both P (cell_link s base (cloth_settings s Stretch) (cell r c) (cell r (c + 1)))
    (cell_link s base (cloth_settings s Stretch) (cell r c) (cell (r + 1) c))
    (cell_valid limit s base (cloth_settings s Stretch) r 0 c (c + 1) r tests tests.stretch (omega arith) (λ e. omega arith))
    (cell_valid limit s base (cloth_settings s Stretch) r 1 c c (r + 1) tests tests.stretch refl (λ e. absurd (omega arith)))))
    (kind_valid limit s base Shear (λ r c. every_both P (cell_link s base (cloth_settings s Shear) (cell r c) (cell (r + 1) (c + 1)))
    (cell_link s base (cloth_settings s Shear) (cell r (c + 1)) (cell (r + 1) c))
    (cell_valid limit s base (cloth_settings s Shear) r 1 c (c + 1) (r + 1) tests tests.shear refl (λ e. omega arith))
    (cell_valid limit s base (cloth_settings s Shear) r 1 (c + 1) c (r + 1) tests tests.shear refl (λ e. absurd (omega arith))))))
    (kind_valid limit s base Bend (λ r c. every_both P (cell_link s base (cloth_settings s Bend) (cell r c) (cell r (c + 2)))
    (cell_link s base (cloth_settings s Bend) (cell r c) (cell (r + 2) c))
    (cell_valid limit s base (cloth_settings s Bend) r 0 c (c + 2) r tests tests.bend (omega arith) (λ e. omega arith))
    (cell_valid limit s base (cloth_settings s Bend) r 2 c c (r + 2) tests tests.bend refl (λ e. absurd (omega arith)))))

pub cloth_size : (s : ClothSpec) → length (cloth_particles s) ≡ s.rows * s.columns
unfolding cloth_particles
cloth_size s = length_concatenated s.rows s.columns (λ r. concatenated s.columns (λ c. resting (cloth_place s r c) s.weight ∷ []))
    (λ r w. omega (arith, length_concatenated s.columns 1 (λ c. resting (cloth_place s r c) s.weight ∷ []) (λ c v. refl)))

kind_size : (s : ClothSpec) (base : ℕ) (kind : Kind) (total span : ℕ) → ((r c : ℕ) → CellFacts s base kind total span r c)
    → length (links_of_kind s base kind) ≤ s.rows * (s.columns * 2)
unfolding links_of_kind
kind_size s base kind total span cells = concatenated_most s.rows (s.columns * 2)
    (λ r. concatenated s.columns (λ c. links_of_cell s base kind r c))
    (λ r w. concatenated_most s.columns 2 (λ c. links_of_cell s base kind r c) (λ c v. (cells r c).most))

cloth_particles_valid : (limit : ℤ) (s : ClothSpec) → ClothTests limit s
    → Every (λ p. IsTrue (is_free_and_valid limit p)) (cloth_particles s)
unfolding cloth_particles
cloth_particles_valid limit s tests = let P = λ (p : Particle). IsTrue (is_free_and_valid limit p) in
    every_concatenated P s.rows (λ r. concatenated s.columns (λ c. resting (cloth_place s r c) s.weight ∷ []))
    (λ r w. every_concatenated P s.columns (λ c. resting (cloth_place s r c) s.weight ∷ [])
    (λ c v. every_one P (resting (cloth_place s r c) s.weight)
    (free_particle limit (cloth_place s r c) s.weight (tests.inside r c w v) tests.free.weight)))

-- the links of two kinds are not alike
kinds_apart : (W base total span sum reach : ℕ) (xs ys : List Link) → (total ≡ sum → ⊥) → Every (SomeCorner W base total span) xs
    → Every (SomeCorner W base sum reach) ys → Apart join_alike xs ys
kinds_apart W base total span sum reach xs ys differ hx hy =
    apart_from join_alike (SomeCorner W base total span) (SomeCorner W base sum reach) xs ys
    (λ l m p t. other_totals W base total span p.row p.column sum reach t.row t.column l m differ p.corner t.corner) hx hy

diagonals_apart : (W base : ℕ) (xs ys : List Link) → Every (SomeCorner W base 2 1) xs → Every (SomeCorner W base 2 2) ys
    → Apart join_alike xs ys
diagonals_apart W base xs ys hx hy = apart_from join_alike (SomeCorner W base 2 1) (SomeCorner W base 2 2) xs ys
    (λ l m p t. diagonal_not_bend W base p.row p.column t.row t.column l m p.corner t.corner) hx hy

pub cloth_mesh : (limit : ℤ) (base : ℕ) (s : ClothSpec) → IsTrue (is_limit limit) → IsTrue (cloth_fits limit s)
    → IsMesh limit base (cloth_particles s) (cloth_links s base)
unfolding cloth_links
cloth_mesh limit base s is fits =
    let tests = cloth_tests limit s is fits in
    let A = links_of_kind s base Stretch in
    let B = links_of_kind s base Shear in
    let C = links_of_kind s base Bend in
    let a = kind_lattice s base Stretch 1 1 tests.wide (stretch_cell s base) in
    let b = kind_lattice s base Shear 2 1 tests.wide (shear_cell s base) in
    let e = kind_lattice s base Bend 2 2 tests.wide (bend_cell s base) in
    let sizes = cloth_size s in
    record {
      particles = every_test (is_free_and_valid limit) (cloth_particles s) (cloth_particles_valid limit s tests);
      links = rw sizes (every_test (is_mesh_link limit base (base + s.rows * s.columns)) (A ++ B ++ C)
          (unfold cloth_links in cloth_valid limit s base tests));
      size = omega (
        arith,
        sizes,
        kind_size s base Stretch 1 1 (stretch_cell s base),
        kind_size s base Shear 2 1 (shear_cell s base),
        kind_size s base Bend 2 2 (bend_cell s base),
        length-append (A ++ B) C,
        length-append A B,
      );
      once = once_both join_alike (A ++ B) C (once_both join_alike A B a.once b.once
          (kinds_apart s.columns base 1 1 2 1 A B (λ k. absurd (omega arith)) a.corners b.corners)) e.once
          (apart_both join_alike A B C (kinds_apart s.columns base 1 1 2 2 A C (λ k. absurd (omega arith)) a.corners e.corners)
          (diagonals_apart s.columns base B C b.corners e.corners));
      few = λ i. omega (
        arith,
        count_both (λ l. l.a == i || l.b == i) (A ++ B) C,
        count_both (λ l. l.a == i || l.b == i) A B,
        a.few i,
        b.few i,
        e.few i,
      );
    }

-- ---- ropes

record RopeTests (limit : ℤ) (s : RopeSpec) : Type 0 where
  pub free : FreeTests limit s.weight
  pub count : 0 < s.count
  pub stretch : AreSettings limit (record { kind = Stretch; k = s.stretch; tear = s.stretch_tear })
  pub bend : AreSettings limit (record { kind = Bend; k = s.bend; tear = s.bend_tear })
  pub inside : (i : ℕ) → i < s.count → IsTrue (is_within limit (rope_place s i))

rope_tests : (limit : ℤ) (s : RopeSpec) → IsTrue (is_limit limit) → IsTrue (rope_fits limit s) → RopeTests limit s
unfolding rope_fits rope_in_ranges rope_counts_fit rope_settings_fit rope_is_inside
rope_tests limit s is fits =
    let h = and_parts (rope_in_ranges limit s) (rope_is_inside limit s) fits in
    let t2 = and_parts (is_within limit s.origin && is_within limit s.spacing && rope_counts_fit s) (rope_settings_fit limit s) h.0 in
    let t1 = and_parts (is_within limit s.origin && is_within limit s.spacing) (rope_counts_fit s) t2.0 in
    let c1 = and_parts (nat_le 1 s.count && nat_le s.count 4096) (nat_le 1 s.weight && nat_le s.weight 65535) t1.1 in
    let e3 = and_parts (nat_le s.stretch 256 && nat_le s.bend 256 && is_between (pos 0) (pos 4 *ℤ limit) s.stretch_tear)
    (is_between (pos 0) (pos 4 *ℤ limit) s.bend_tear) t2.1 in
    let e2 = and_parts (nat_le s.stretch 256 && nat_le s.bend 256) (is_between (pos 0) (pos 4 *ℤ limit) s.stretch_tear) e3.0 in
    let e1 = and_parts (nat_le s.stretch 256) (nat_le s.bend 256) e2.0 in
    record {
      free = record { low = (limit_bounds limit is).0; weight = c1.1 };
      count = omega (arith, at_least 1 4096 s.count c1.0);
      stretch = record { k = e1.0; tear = e2.1 };
      bend = record { k = e1.1; tear = e3.1 };
      inside = λ i within. below s.count (λ i. is_within limit (rope_place s i)) i h.1 within;
    }

rope_shaped : (s : RopeSpec) (base : ℕ) (t : KindSettings) (step i : ℕ) → 0 < step → i + step < s.count
    → Shaped s.count base 0 0 i (i + step) (rope_link s base t step i)
unfolding rope_link
rope_shaped s base t step i moves within = record {
  a = omega arith;
  b = omega arith;
  first_within = omega arith;
  second_within = within;
  ordered = λ e. omega arith;
}

rope_corner : (s : RopeSpec) (base : ℕ) (t : KindSettings) (step i : ℕ) → 0 < step → i + step < s.count
    → Corner s.count base step step 0 i (rope_link s base t step i)
rope_corner s base t step i moves within = record {
  h = 0;
  w = step;
  first = i;
  second = i + step;
  shaped = rope_shaped s base t step i moves within;
  sum = omega arith;
  tall = inl refl;
  wide = inr refl;
  ends = inl (refl, refl);
}

chain_corners : (s : RopeSpec) (base : ℕ) (t : KindSettings) (step : ℕ) → 0 < step
    → Every (SomeCorner s.count base step step) (rope_chain s base t step)
unfolding rope_chain
chain_corners s base t step moves = every_concatenated (SomeCorner s.count base step step) (s.count - step)
    (λ i. rope_link s base t step i ∷ []) (λ i w. every_one (SomeCorner s.count base step step) (rope_link s base t step i)
    (some s.count base step step 0 i (rope_link s base t step i) (rope_corner s base t step i moves (omega arith))))

chain_once : (s : RopeSpec) (base : ℕ) (t : KindSettings) (step : ℕ) → 0 < step → IsTrue (none_twice join_alike (rope_chain s base t step))
unfolding rope_chain
chain_once s base t step moves = once_concatenated join_alike (s.count - step) (λ i. rope_link s base t step i ∷ [])
    (λ i w. once_one join_alike (rope_link s base t step i))
    (λ i j before w.
    let P = Corner s.count base step step 0 i in
    let Q = Corner s.count base step step 0 j in
    apart_from join_alike P Q (rope_link s base t step i ∷ []) (rope_link s base t step j ∷ [])
    (λ l m p q. other_corners s.count base step step 0 i 0 j l m (λ e f. omega (arith, before, f)) p q)
    (every_one P (rope_link s base t step i) (rope_corner s base t step i moves (omega arith)))
    (every_one Q (rope_link s base t step j) (rope_corner s base t step j moves (omega arith))))

chain_few_at : (s : RopeSpec) (base : ℕ) (t : KindSettings) (step x y i : ℕ) → 0 < step → y < s.count → i ≡ base + x * s.count + y
    → links_at (rope_chain s base t step) i ≤ 2
unfolding rope_chain
chain_few_at s base t step x y i moves within is =
    count_concatenated (λ l. l.a == i || l.b == i) (s.count - step) (λ i. rope_link s base t step i ∷ []) 1 y (y - step)
    (λ j w. omega (arith, at_most_length (λ l. l.a == i || l.b == i) (rope_link s base t step j ∷ [])))
    (λ j w here before. count_none (λ l. l.a == i || l.b == i) (rope_link s base t step j ∷ [])
    (every_one (λ (l : Link). (l.a == i || l.b == i) ≡ false) (rope_link s base t step j)
    (other_columns s.count base step step 0 j x y i (rope_link s base t step j)
    (rope_corner s base t step j moves (omega arith)) within is here before)))

chain_few : (s : RopeSpec) (base : ℕ) (t : KindSettings) (step : ℕ) → 0 < step → 0 < s.count → (i : ℕ)
    → links_at (rope_chain s base t step) i ≤ 2
chain_few s base t step moves some_count i = elim (cases_lt i base) [
  | inl before ↦ omega (arith, none_before s.count base step step i (rope_chain s base t step) before (chain_corners s base t step moves))
  | inr after ↦ (let k : base ≤ i = omega arith in chain_few_at s base t step ((i - base) / s.count) ((i - base) % s.count) i moves
      (omega arith) (placed s.count base i some_count k))
]

rope_link_valid : (limit : ℤ) (s : RopeSpec) (base : ℕ) (t : KindSettings) (step i : ℕ) → RopeTests limit s → AreSettings limit t → 0 < step
    → i + step < s.count → IsTrue (is_mesh_link limit base (base + s.count) (rope_link s base t step i))
unfolding rope_link
rope_link_valid limit s base t step i tests settings moves within =
    link_valid limit base (base + s.count) (rope_link s base t step i) refl (omega arith) (omega arith) (omega arith) (omega arith)
    (λ e. absurd (omega arith))
    (rest_fits limit (rope_place s i) (rope_place s (i + step)) tests.free.low (tests.inside i (omega arith)) (tests.inside (i + step) within))
    settings.tear settings.k

chain_valid : (limit : ℤ) (s : RopeSpec) (base : ℕ) (t : KindSettings) (step : ℕ) → RopeTests limit s → AreSettings limit t → 0 < step
    → Every (λ l. IsTrue (is_mesh_link limit base (base + s.count) l)) (rope_chain s base t step)
unfolding rope_chain
chain_valid limit s base t step tests settings moves = let P = λ (l : Link). IsTrue (is_mesh_link limit base (base + s.count) l) in
    every_concatenated P (s.count - step) (λ i. rope_link s base t step i ∷ [])
    (λ i w. every_one P (rope_link s base t step i) (rope_link_valid limit s base t step i tests settings moves (omega arith)))

chain_size : (s : RopeSpec) (base : ℕ) (t : KindSettings) (step : ℕ) → length (rope_chain s base t step) ≤ s.count
unfolding rope_chain
chain_size s base t step = omega (arith, concatenated_most (s.count - step) 1 (λ i. rope_link s base t step i ∷ []) (λ i w. omega arith))

pub rope_size : (s : RopeSpec) → length (rope_particles s) ≡ s.count
unfolding rope_particles
rope_size s = omega (arith, length_concatenated s.count 1 (λ i. resting (rope_place s i) s.weight ∷ []) (λ i w. refl))

rope_particles_valid : (limit : ℤ) (s : RopeSpec) → RopeTests limit s → Every (λ p. IsTrue (is_free_and_valid limit p)) (rope_particles s)
unfolding rope_particles
rope_particles_valid limit s tests = let P = λ (p : Particle). IsTrue (is_free_and_valid limit p) in
    every_concatenated P s.count (λ i. resting (rope_place s i) s.weight ∷ [])
    (λ i w. every_one P (resting (rope_place s i) s.weight)
    (free_particle limit (rope_place s i) s.weight (tests.inside i w) tests.free.weight))

pub rope_mesh : (limit : ℤ) (base : ℕ) (s : RopeSpec) → IsTrue (is_limit limit) → IsTrue (rope_fits limit s)
    → IsMesh limit base (rope_particles s) (rope_links s base)
unfolding rope_links
rope_mesh limit base s is fits =
    let tests = rope_tests limit s is fits in
    let t : KindSettings = record { kind = Stretch; k = s.stretch; tear = s.stretch_tear } in
    let u : KindSettings = record { kind = Bend; k = s.bend; tear = s.bend_tear } in
    let A = rope_chain s base t 1 in
    let B = rope_chain s base u 2 in
    let P = λ (l : Link). IsTrue (is_mesh_link limit base (base + s.count) l) in
    let sizes = rope_size s in
    record {
      particles = every_test (is_free_and_valid limit) (rope_particles s) (rope_particles_valid limit s tests);
      links = rw sizes (every_test (is_mesh_link limit base (base + s.count)) (A ++ B)
          (every_both P A B (chain_valid limit s base t 1 tests tests.stretch (omega arith))
          (chain_valid limit s base u 2 tests tests.bend (omega arith))));
      size = omega (arith, sizes, chain_size s base t 1, chain_size s base u 2, length-append A B);
      once = once_both join_alike A B (chain_once s base t 1 (omega arith)) (chain_once s base u 2 (omega arith))
          (kinds_apart s.count base 1 1 2 2 A B (λ k. absurd (omega arith)) (chain_corners s base t 1 (omega arith))
          (chain_corners s base u 2 (omega arith)));
      few = λ i. omega (
        arith,
        count_both (λ l. l.a == i || l.b == i) A B,
        chain_few s base t 1 (omega arith) tests.count i,
        chain_few s base u 2 (omega arith) tests.count i,
      );
    }
