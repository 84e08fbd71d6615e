-- The lines of a mesh.
use Rattle.std.specs.Prelude.{ℕ, zero, suc, ◌+◌, ◌*◌, ◌/◌, ◌%◌, ◌==◌, ℤ, pos, negsuc, unsigned_abs, if◌then◌else◌, codes, decimal, List, []}
use Rattle.std.specs.Prelude.{◌∷◌, ◌++◌, map}
use Rattle.std.specs.List.{flat_map}
use Rattle.pbd_num.specs.declared.Vec3.{Vec3}
use Rattle.pbd_world.specs.Text.{line}
use Rattle.pbd_obj.specs.declared.mesh.ObjMesh.{ObjMesh}
use Rattle.pbd_obj.specs.Meshes.{faces}

-- the decimals of n / 65,536, up to the last that isn't 0 and up to so many places
abbrev pub decimals : ℕ → ℕ → List ℕ
decimals zero n = []
decimals (suc places) n = if n == 0 then [] else (48 + n * 10 / 65536) ∷ decimals places (n * 10 % 65536)

-- a point and all decimals, where there are any
abbrev pub fraction : ℕ → List ℕ
fraction n = if n == 0 then [] else 46 ∷ decimals 16 n

abbrev pub sign : ℤ → List ℕ
sign (pos n) = []
sign (negsuc n) = 45 ∷ []

-- so many units in metres, exactly
unfoldable pub coordinate : ℤ → List ℕ
coordinate u = sign u ++ (decimal (unsigned_abs u / 65536) ++ fraction (unsigned_abs u % 65536))

unfoldable pub vertex_line : Vec3 → List ℕ
vertex_line place = line (codes "v" ∷ coordinate place.x ∷ coordinate place.y ∷ coordinate place.z ∷ [])

-- the corners counted from 1, where the first vertex has the number `base`
unfoldable pub face_line : ℕ → List ℕ → List ℕ
face_line base corners = line (codes "f" ∷ map (λ corner. decimal (base + corner + 1)) corners)

-- a corner of that line, with the space before it
abbrev pub corner_text : ℕ → List ℕ
corner_text n = 32 ∷ decimal n

-- the lines of a mesh's vertices and then of its faces
unfoldable pub mesh_text : ObjMesh → List ℕ
mesh_text mesh = flat_map vertex_line mesh.places ++ flat_map (face_line 0) (faces mesh)
