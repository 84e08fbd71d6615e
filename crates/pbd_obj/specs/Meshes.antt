-- A mesh: places of vertices, and faces, whose corners stand one face after another.
use Rattle.std.specs.Prelude.{◌≡◌, ℕ, ◌<◌, ◌≤◌, ◌==◌, pos, IsTrue, List, [], ◌∷◌, length, take, drop, sum, All}
use Rattle.pbd_num.specs.declared.Vec3.{Vec3}
use Rattle.pbd_num.specs.Vectors.{is_within}
use Rattle.pbd_world.specs.Valid.{none_twice}
use Rattle.pbd_obj.specs.declared.mesh.ObjMesh.{ObjMesh}

-- a list in pieces of these sizes
abbrev pub cut : List ℕ → List ℕ → List (List ℕ)
cut [] corners = []
cut (size ∷ sizes) corners = take size corners ∷ cut sizes (drop size corners)

-- the corners of each face
abbrev pub faces : ObjMesh → List (List ℕ)
faces mesh = cut mesh.sizes mesh.corners

-- at least three of n vertices, and none twice
pub record IsFace (n : ℕ) (face : List ℕ) : Type 0 where
  pub size : 3 ≤ length face
  pub within : All (λ corner. corner < n) face
  pub once : IsTrue (none_twice {A = ℕ} (λ a b. a == b) face)

-- what holds of a mesh that was read or made of arrays
pub record IsMesh (mesh : ObjMesh) : Type 0 where
  pub inside : All {X = Vec3} (λ place. IsTrue (is_within (pos 536870912) place)) mesh.places
  pub whole : sum mesh.sizes ≡ length mesh.corners
  pub faces : All {X = List ℕ} (λ face. IsFace (length mesh.places) face) (faces mesh)
