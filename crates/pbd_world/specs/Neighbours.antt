-- The other ends of the links at a particle, and whether each link stands alone.
use Rattle.std.specs.Prelude.{◌≡◌, ◌≢◌, ℕ, ◌<◌, nat_le, nat_lt, ◌==◌, if◌then◌else◌, List, [], ◌∷◌, ◌++◌, Bool, false, not, ◌&&◌, length}
use Rattle.std.specs.Prelude.{slice_index_or}
use Rattle.std.specs.List.{list_any, list_all, range_with_len}
use Rattle.pbd_world.specs.declared.parts.Link.{Link}
use Rattle.pbd_world.specs.declared.parts.Track.{Track}
use Rattle.pbd_world.specs.Valid.{none_twice, join_alike, links_at}

-- the other end of a link at particle i
unfoldable pub other_end : ℕ → Link → List ℕ
other_end i l = if l.a == i then l.b ∷ [] else if l.b == i then l.a ∷ [] else []

-- the other ends of the links at particle i
unfoldable pub neighbours : ℕ → List Link → List ℕ
neighbours i [] = []
neighbours i (l ∷ ls) = other_end i l ++ neighbours i ls

abbrev pub is_among : ℕ → List ℕ → Bool
is_among n ns = list_any (λ m. m == n) ns

-- a link joins two different ones of n particles
pub record AreJoined (n : ℕ) (l : Link) : Type 0 where
  pub first : l.a < n
  pub second : l.b < n
  pub apart : l.a ≢ l.b

-- with these other ends of the links at its two particles, a link to b is no double and is at most the 32nd at each
unfoldable pub is_room_for : ℕ → List ℕ → List ℕ → Bool
is_room_for b at_a at_b = nat_lt (length at_a) 32 && nat_lt (length at_b) 32 && not (is_among b at_a)

-- at most one link joins two particles, and at most 32 are at each of n particles
unfoldable pub stand_alone : ℕ → List Link → Bool
stand_alone n links = none_twice join_alike links && list_all (λ i. nat_le (links_at links i) 32) (range_with_len 0 n)

-- for each of so many particles the other ends of its links
pub record HoldsNeighbours (count : ℕ) (links : List Link) (ends : List (List ℕ)) : Type 0 where
  pub size : length ends ≡ count
  pub ends_at : (i : ℕ) → i < count → slice_index_or ends i [] ≡ neighbours i links

-- the same after one link more
pub record AddsLink (l : Link) (old now : List (List ℕ)) : Type 0 where
  pub size : length now ≡ length old
  pub ends_at : (i : ℕ) → i < length old → slice_index_or now i [] ≡ slice_index_or old i [] ++ other_end i l

-- no two tracks name one particle
unfoldable pub name_apart : List Track → Bool
name_apart tracks = none_twice {A = Track} (λ t u. t.particle == u.particle) tracks

-- flag i says whether a track names particle i
pub record HoldsTracked (count : ℕ) (tracks : List Track) (flags : List Bool) : Type 0 where
  pub size : length flags ≡ count
  pub flag : (i : ℕ) → i < count → slice_index_or flags i false ≡ list_any (λ t. t.particle == i) tracks
