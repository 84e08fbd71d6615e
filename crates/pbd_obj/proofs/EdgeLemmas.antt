-- Edges, face by face, and what faces each other across them.
use Rattle.std.proofs.Common.{◌≡◌, ◌≢◌, ◌∙◌, sym, refl, ℕ, ◌+◌, ◌-◌, ◌%◌, ◌<◌, Bool, true, false, List, [], ◌∷◌, length, get_or, filter}
use Rattle.std.proofs.Common.{arith}
use Rattle.std.specs.Prelude.{◌==◌, cond, nat_lt, All, slice_index}
use Rattle.std.specs.List.{range_with_len, AllByRecursion}
use Rattle.std.proofs.Math.Nat.{mod-lt}
use Rattle.std.proofs.lemmas.Bool.{eq-eqb, false≢true}
use Rattle.std.proofs.lemmas.List.Elements.{All-filter, All-from_recursion, All-get_or, recursion_from_All}
use Rattle.pbd_world.proofs.KeepingOn.{all-append, all-flat, all-map, all-range}
use Rattle.pbd_obj.specs.declared.mesh.ObjMesh.{ObjMesh}
use Rattle.pbd_obj.specs.declared.edges.Edge.{Edge}
use Rattle.pbd_obj.specs.Meshes.{faces, IsFace, IsMesh}
use Rattle.pbd_obj.specs.Facing.{across, across_edge, apart, corner_at, edge, edge_between, edges, face_edges, facing, has_ends, IsEdgeOf}

-- ---- the corners of an edge

between_of : (n before a b behind : ℕ) → before < n → a < n → b < n → behind < n → IsEdgeOf n (edge_between before a b behind)
between_of n before a b behind p q r s = by_test (nat_lt a b) refl
  where
    by_test : (c : Bool) → nat_lt a b ≡ c → IsEdgeOf n (edge_between before a b behind)
    by_test true t = rw t (record { low = q; high = r; beside_low = p; beside_high = s })
    by_test false t = rw t (record { low = r; high = q; beside_low = s; beside_high = p })

edge_of : (n : ℕ) (face : List ℕ) (i : ℕ) → IsFace n face → i < length face → IsEdgeOf n (edge face i)
unfolding edge
edge_of n face i is lt =
    let size = is.size in
    let named : (k : ℕ) → k < length face → get_or face k 0 < n = λ k within. All-get_or (λ corner. corner < n) face k 0 within is.within in
    let around : (k : ℕ) → corner_at face k < n = λ k. named (k % length face) (mod-lt k (omega (arith, size))) in
    between_of n (corner_at face (i + length face - 1)) (slice_index face i) (corner_at face (i + 1)) (corner_at face (i + 2))
    (around (i + length face - 1)) (named i lt) (around (i + 1)) (around (i + 2))

face_edges_of : (n : ℕ) (face : List ℕ) → IsFace n face → AllByRecursion (IsEdgeOf n) (face_edges face)
face_edges_of n face is = all-map {A = ℕ} {B = Edge} (IsEdgeOf n) (edge face) (range_with_len 0 (length face))
    (all-range (λ i. IsEdgeOf n (edge face i)) 0 (length face) (λ k low high. edge_of n face k is (omega (arith, high))))

edges_named : (mesh : ObjMesh) → IsMesh mesh → AllByRecursion (IsEdgeOf (length mesh.places)) (edges (faces mesh))
edges_named mesh is = all-flat {A = List ℕ} {B = Edge} (λ face. IsFace (length mesh.places) face) (IsEdgeOf (length mesh.places)) face_edges
    (λ face h. face_edges_of (length mesh.places) face h) (faces mesh)
    (recursion_from_All {X = List ℕ} (λ face. IsFace (length mesh.places) face) (faces mesh) is.faces)

pub mesh_edges : (mesh : ObjMesh) → IsMesh mesh → All (IsEdgeOf (length mesh.places)) (edges (faces mesh))
mesh_edges mesh is = All-from_recursion (IsEdgeOf (length mesh.places)) (edges (faces mesh)) (edges_named mesh is)

-- ---- pairs

-- two of n vertices
abbrev pub IsApart : ℕ → ℕ × ℕ → Type 0
IsApart n pair = (pair.0 < n) × (pair.1 < n) × (pair.0 ≢ pair.1)

apart_of : (n a b : ℕ) → a < n → b < n → AllByRecursion (IsApart n) (apart (a, b))
apart_of n a b p q = by_test (a == b) refl
  where
    by_test : (c : Bool) → (a == b) ≡ c → AllByRecursion (IsApart n) (cond c [] ((a, b) ∷ []))
    by_test true t = tt
    by_test false t = ((p, q, λ e. false≢true (sym t ∙ eq-eqb a b e)), tt)

across_of : (n : ℕ) (es : List Edge) → AllByRecursion (IsEdgeOf n) es → AllByRecursion (IsApart n) (across es)
across_of n [] all = tt
across_of n (e ∷ []) all = tt
across_of n (e ∷ f ∷ []) all =
    let first = all.0 in
    let second = (all.1).0 in
    all-append (IsApart n) (apart (e.beside_low, f.beside_low)) (apart (e.beside_high, f.beside_high))
    (apart_of n e.beside_low f.beside_low first.beside_low second.beside_low)
    (apart_of n e.beside_high f.beside_high first.beside_high second.beside_high)
across_of n (e ∷ f ∷ g ∷ es) all = tt

pub sharers_of : (n : ℕ) (es : List Edge) (ends : ℕ × ℕ) → All (IsEdgeOf n) es → AllByRecursion (IsEdgeOf n) (filter (has_ends ends) es)
sharers_of n es ends all = recursion_from_All (IsEdgeOf n) (filter (has_ends ends) es) (All-filter (has_ends ends) (IsEdgeOf n) es all)

-- what faces each other is two vertices
pub facing_named : (n : ℕ) (es : List Edge) → All (IsEdgeOf n) es → AllByRecursion (IsApart n) (facing es)
unfolding facing
facing_named n es all = all-flat {A = Edge} {B = ℕ × ℕ} (IsEdgeOf n) (IsApart n) (across_edge es)
    (λ e h. across_of n (filter (has_ends (e.low, e.high)) es) (sharers_of n es (e.low, e.high) all)) es
    (recursion_from_All (IsEdgeOf n) es all)
