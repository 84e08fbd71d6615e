-- Links that are found one by one, and how many are at each particle.
use Rattle.std.specs.Prelude.{◌≡◌, ◌≢◌, ◌⊎◌, ℕ, ◌+◌, ◌-◌, ◌^◌, ◌<◌, ◌≤◌, min, max, ◌==◌, if◌then◌else◌, List, length, slice_index, All}
use Rattle.std.specs.Prelude.{Option, Some, None}
use Rattle.std.specs.declared.cmp.Ordering.{Ordering}
use Rattle.std.specs.Ordering.{nat_cmp, ordering_then}
use Rattle.std.specs.List.{list_any}
use Rattle.std.specs.BTreeSet.{BTreeSet, contains}
use Rattle.pbd_num.specs.declared.Vec3.{Vec3}
use Rattle.pbd_num.specs.Vectors.{Within}
use Rattle.pbd_world.specs.declared.parts.Link.{Link}
use Rattle.pbd_world.specs.Valid.{join_alike, links_at}
use Rattle.pbd_obj.specs.declared.mesh.ObjMesh.{ObjMesh}
use Rattle.pbd_obj.specs.declared.mesh.ObjFault.{ObjFault}
use Rattle.pbd_obj.specs.declared.mesh.ObjFault.TheVariants.{TooMany, OutOfMemory}
use Rattle.pbd_obj.specs.declared.links.FoundLinks.{FoundLinks}
use Rattle.pbd_obj.specs.MeshLinks.{each_once}

-- the vertices fit behind `base` particles, and their places are in range
pub record FitsNet (mesh : ObjMesh) (base : ℕ) : Type 0 where
  pub room : base + length mesh.places ≤ 65536
  pub inside : All {X = Vec3} (λ place. Within (2 ^ 29) place) mesh.places

-- each corner is a vertex of the mesh
abbrev pub Names : ObjMesh → List ℕ → Type 0
Names mesh face = All (λ corner. corner < length mesh.places) face

-- two numbers, the smaller first
unfoldable pub ordered : ℕ → ℕ → ℕ × ℕ
ordered a b = (min a b, max a b)

abbrev pub pair_cmp : ℕ × ℕ → ℕ × ℕ → Ordering
pair_cmp p q = ordering_then (nat_cmp p.0 q.0) (nat_cmp p.1 q.1)

-- the pairs are those that the links join
unfoldable pub HoldsPairs : List Link → BTreeSet (ℕ × ℕ) → Type 0
HoldsPairs links joined = (l : Link) → contains pair_cmp joined (ordered l.a l.b) ≡ list_any (join_alike l) links

abbrev pub HoldsJoined : FoundLinks → Type 0
HoldsJoined found = HoldsPairs found.links found.joined

-- links were added, each whose particles none before it joins
pub record Adds (more : List Link) (old now : FoundLinks) : Type 0 where
  pub links : now.links ≡ each_once old.links more
  pub joined : HoldsJoined now
  pub base : now.base ≡ old.base
  pub room : now.room ≡ old.room
  pub within : length old.links ≤ old.room → length now.links ≤ now.room

-- why links can't be added: there are more than fit the room, or there is no memory
abbrev pub IsStopped : List Link → FoundLinks → ObjFault → Type 0
IsStopped links old fault = (fault ≡ OutOfMemory) ⊎ ((fault ≡ TooMany) × (old.room < length (each_once old.links links)))

abbrev pub IsFullAt : List Link → ℕ → ObjFault → Type 0
IsFullAt links room fault = (fault ≡ OutOfMemory) ⊎ ((fault ≡ TooMany) × (room < length links))

-- a link joins two of so many particles from `base` on
pub record IsLinkFrom (base count : ℕ) (l : Link) : Type 0 where
  pub a_low : base ≤ l.a
  pub a_high : l.a < base + count
  pub b_low : base ≤ l.b
  pub b_high : l.b < base + count
  pub apart : l.a ≢ l.b

-- each count is at most 32
abbrev pub AreFew : List ℕ → Type 0
AreFew counts = (v : ℕ) → v < length counts → slice_index counts v ≤ 32

-- for each particle from `base` on, how many links are at it, at most 32
pub record HoldsCounts (base : ℕ) (links : List Link) (counts : List ℕ) : Type 0 where
  pub counts_at : (v : ℕ) → v < length counts → slice_index counts v ≡ links_at links (base + v)
  pub few : AreFew counts

-- the end of a link at which the counts say 32
abbrev pub counted_end : ℕ → List ℕ → Link → Option ℕ
counted_end base counts l =
    if slice_index counts (l.a - base) == 32 then Some l.a else
    if slice_index counts (l.b - base) == 32 then Some l.b else
    None

-- a link was counted at both its ends
pub record CountsLink (base : ℕ) (l : Link) (old now : List ℕ) : Type 0 where
  pub size : length now ≡ length old
  pub first : slice_index now (l.a - base) ≡ slice_index old (l.a - base) + 1
  pub second : slice_index now (l.b - base) ≡ slice_index old (l.b - base) + 1
  pub others : (v : ℕ) → v ≢ l.a - base → v ≢ l.b - base → slice_index now v ≡ slice_index old v

-- a particle is one of so many from `base` on
abbrev pub IsFrom : ℕ → ℕ → ℕ → Type 0
IsFrom base count i = (base ≤ i) × (i < base + count)
