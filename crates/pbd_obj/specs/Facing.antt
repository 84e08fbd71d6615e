-- What faces each other across the edges that two faces share (after Provot's flexion links).
use Rattle.std.specs.Prelude.{ℕ, ◌+◌, ◌-◌, ◌%◌, ◌<◌, ◌==◌, nat_lt, Bool, ◌&&◌, if◌then◌else◌, List, [], ◌∷◌, ◌++◌, length, map, filter}
use Rattle.std.specs.Prelude.{slice_index}
use Rattle.std.specs.List.{flat_map, range_with_len}
use Rattle.pbd_obj.specs.declared.edges.Edge.{Edge}

-- ---- edges

-- from a to b, with the corner before a and the one behind b; the smaller end first
abbrev pub edge_between : ℕ → ℕ → ℕ → ℕ → Edge
edge_between before a b behind =
    if nat_lt a b
    then record { low = a; high = b; beside_low = before; beside_high = behind }
    else record { low = b; high = a; beside_low = behind; beside_high = before }

-- corner i of a face, round and round
abbrev pub corner_at : List ℕ → ℕ → ℕ
corner_at face i = slice_index face (i % length face)

-- the edge from corner i to the next
unfoldable pub edge : List ℕ → ℕ → Edge
edge face i = edge_between (corner_at face (i + length face - 1)) (slice_index face i) (corner_at face (i + 1)) (corner_at face (i + 2))

abbrev pub face_edges : List ℕ → List Edge
face_edges face = map {A = ℕ} {B = Edge} (edge face) (range_with_len 0 (length face))

-- face by face
abbrev pub edges : List (List ℕ) → List Edge
edges faces = flat_map {X = List ℕ} {A = Edge} face_edges faces

-- its ends, and the corners beside them, are of n vertices
pub record IsEdgeOf (n : ℕ) (e : Edge) : Type 0 where
  pub low : e.low < n
  pub high : e.high < n
  pub beside_low : e.beside_low < n
  pub beside_high : e.beside_high < n

-- ---- what faces each other

abbrev pub has_ends : ℕ × ℕ → Edge → Bool
has_ends ends e = e.low == ends.0 && e.high == ends.1

-- the pair, unless it is one corner twice
abbrev pub apart : ℕ × ℕ → List (ℕ × ℕ)
apart pair = if pair.0 == pair.1 then [] else pair ∷ []

-- the corners beside each end of an edge, of the two faces that share it; where there is one face, or are three or more, none
abbrev pub across : List Edge → List (ℕ × ℕ)
across (e ∷ f ∷ []) = apart (e.beside_low, f.beside_low) ++ apart (e.beside_high, f.beside_high)
across es = []

abbrev pub across_edge : List Edge → Edge → List (ℕ × ℕ)
across_edge all e = across (filter (has_ends (e.low, e.high)) all)

-- edge by edge, so that an edge gives what faces each other across it at both its faces
unfoldable pub facing : List Edge → List (ℕ × ℕ)
facing all = flat_map {X = Edge} {A = ℕ × ℕ} (across_edge all) all
