-- The particles and links of a mesh.
use Rattle.std.specs.Prelude.{ℕ, ◌+◌, ◌-◌, ◌%◌, ◌==◌, nat_lt, ◌||◌, true, pos, if◌then◌else◌, List, [], ◌∷◌, ◌++◌, length, map, slice_index}
use Rattle.std.specs.Prelude.{slice_index_or, Option, Some, None, Result, Ok, Err}
use Rattle.std.specs.List.{flat_map, list_any, range_with_len}
use Rattle.std.specs.Option.{option_or}
use Rattle.pbd_num.specs.declared.Vec3.{Vec3}
use Rattle.pbd_num.specs.Vectors.{zero_vector, minus, length_of}
use Rattle.pbd_world.specs.declared.parts.Particle.{Particle}
use Rattle.pbd_world.specs.declared.parts.Link.{Link}
use Rattle.pbd_world.specs.declared.parts.Kind.{Kind}
use Rattle.pbd_world.specs.declared.parts.Kind.TheVariants.{Stretch, Shear, Bend, Plain}
use Rattle.pbd_world.specs.declared.parts.Parts.{Parts}
use Rattle.pbd_world.specs.Valid.{join_alike, links_at}
use Rattle.pbd_mesh.specs.Cloth.{resting}
use Rattle.pbd_obj.specs.declared.mesh.ObjMesh.{ObjMesh}
use Rattle.pbd_obj.specs.declared.mesh.ObjFault.{ObjFault}
use Rattle.pbd_obj.specs.declared.mesh.ObjFault.TheVariants.{TooMany, TooManyAtParticle}
use Rattle.pbd_obj.specs.declared.settings.LinkSettings.{LinkSettings}
use Rattle.pbd_obj.specs.declared.settings.MeshSettings.{MeshSettings}
use Rattle.pbd_obj.specs.Facing.{edges, facing}
use Rattle.pbd_obj.specs.Meshes.{faces}
use Rattle.pbd_obj.specs.Settings.{stiff_settings}

-- ---- what is joined

-- corner i with the next, and the last with the first
abbrev pub side : List ℕ → ℕ → ℕ × ℕ
side face i = (slice_index face i, slice_index face ((i + 1) % length face))

abbrev pub ring : List ℕ → List (ℕ × ℕ)
ring face = map {A = ℕ} {B = ℕ × ℕ} (side face) (range_with_len 0 (length face))

-- the first with the third corner of four, and the second with the fourth
abbrev pub diagonals : List ℕ → List (ℕ × ℕ)
diagonals (a ∷ b ∷ c ∷ d ∷ []) = (a, c) ∷ (b, d) ∷ []
diagonals face = []

-- ---- links

abbrev pub place_at : ObjMesh → ℕ → Vec3
place_at mesh v = slice_index_or mesh.places v zero_vector

-- a link at its length, where the first vertex is particle `base`
unfoldable pub link : ObjMesh → ℕ → Kind → LinkSettings → ℕ × ℕ → Link
link mesh base kind settings ends = record {
  a = base + ends.0;
  b = base + ends.1;
  rest = pos (length_of (minus (place_at mesh ends.0) (place_at mesh ends.1)));
  k = settings.stiffness;
  tear = settings.tear;
  kind = kind;
  live = true;
}

abbrev pub pairs_linked : ObjMesh → ℕ → Kind → LinkSettings → List (ℕ × ℕ) → List Link
pairs_linked mesh base kind settings ps = map {A = ℕ × ℕ} {B = Link} (link mesh base kind settings) ps

abbrev pub ring_links : ObjMesh → ℕ → LinkSettings → List ℕ → List Link
ring_links mesh base settings face = pairs_linked mesh base Stretch settings (ring face)

abbrev pub diagonal_links : ObjMesh → ℕ → LinkSettings → List ℕ → List Link
diagonal_links mesh base settings face = pairs_linked mesh base Shear settings (diagonals face)

-- along the sides of a face, or across it where it has four corners
abbrev pub face_links : MeshSettings → ObjMesh → ℕ → Kind → List ℕ → List Link
face_links t mesh base Stretch face = ring_links mesh base t.stretch face
face_links t mesh base Shear face = diagonal_links mesh base t.shear face
face_links t mesh base Bend face = []
face_links t mesh base Plain face = []

-- face by face
abbrev pub kind_links : MeshSettings → ObjMesh → ℕ → Kind → List Link
kind_links t mesh base kind = flat_map {X = List ℕ} {A = Link} (face_links t mesh base kind) (faces mesh)

abbrev pub bends : ObjMesh → ℕ → LinkSettings → List (ℕ × ℕ) → List Link
bends mesh base settings ps = pairs_linked mesh base Bend settings ps

-- across the edges that two faces share, if there are settings for these
abbrev pub some_bends : Option LinkSettings → ObjMesh → ℕ → List Link
some_bends None mesh base = []
some_bends (Some settings) mesh base = bends mesh base settings (facing (edges (faces mesh)))

abbrev pub bend_links : MeshSettings → ObjMesh → ℕ → List Link
bend_links t mesh base = some_bends t.bend mesh base

-- some links, and after them each of others whose particles none before it joins, in either order
abbrev pub each_once : List Link → List Link → List Link
each_once kept [] = kept
each_once kept (l ∷ ls) = each_once (if list_any (join_alike l) kept then kept else kept ++ l ∷ []) ls

-- along the sides first, then across, and then what bends
unfoldable pub mesh_links : MeshSettings → ObjMesh → ℕ → List Link
mesh_links t mesh base = each_once [] (kind_links t mesh base Stretch ++ (kind_links t mesh base Shear ++ bend_links t mesh base))

-- ---- how many are at a particle

-- the end of a link at which it is the 33rd, after those before it
abbrev pub overfull_end : List Link → Link → Option ℕ
overfull_end before l =
    if links_at before l.a == 32 then Some l.a else
    if links_at before l.b == 32 then Some l.b else
    None

-- that of the first link that has one
abbrev pub first_overfull : List Link → List Link → Option ℕ
first_overfull before [] = None
first_overfull before (l ∷ ls) = option_or (overfull_end before l) (first_overfull (before ++ l ∷ []) ls)

-- ---- a scene and a mesh

-- a free particle at rest
abbrev pub at_rest : ℕ → Vec3 → Particle
at_rest weight place = resting place weight

-- parts with particles and links after their own
abbrev pub with_all : List Particle → List Link → Parts → Parts
with_all particles links parts = record parts { particles = parts.particles ++ particles; links = parts.links ++ links }

abbrev pub particles : ℕ → ObjMesh → List Particle
particles weight mesh = map {A = Vec3} {B = Particle} (at_rest weight) mesh.places

-- parts with a mesh after their own, unless it makes too many particles or links, or too many at a vertex, counted from 1
abbrev pub unless_overfull : ℕ → Option ℕ → Parts → Result Parts ObjFault
unless_overfull base None parts = Ok parts
unless_overfull base (Some i) parts = Err (TooManyAtParticle (i - base + 1))

abbrev pub with_links : ℕ → ObjMesh → List Link → Parts → Result Parts ObjFault
with_links weight mesh links parts =
    if nat_lt 65536 (length parts.particles + length mesh.places) || nat_lt 524288 (length parts.links + length links)
    then Err TooMany
    else unless_overfull (length parts.particles) (first_overfull [] links) (with_all (particles weight mesh) links parts)

unfoldable pub with_mesh_as : MeshSettings → ObjMesh → Parts → Result Parts ObjFault
with_mesh_as t mesh parts = with_links t.weight mesh (mesh_links t mesh (length parts.particles)) parts

-- as the form `obj` adds it
unfoldable pub with_mesh : ObjMesh → Parts → Result Parts ObjFault
with_mesh mesh parts = with_mesh_as stiff_settings mesh parts
