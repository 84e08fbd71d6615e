-- Which faces share an edge, as they are counted one by one.
use Rattle.std.specs.Prelude.{◌≡◌, ⊤, ℕ, List, [], ◌∷◌, ◌++◌, filter, Option, Some, None}
use Rattle.std.specs.BTreeMap.{BTreeMap, get}
use Rattle.pbd_obj.specs.declared.edges.Edge.{Edge}
use Rattle.pbd_obj.specs.declared.bends.Sharing.{Sharing}
use Rattle.pbd_obj.specs.declared.bends.Sharing.TheVariants.{One, Two, More}
use Rattle.pbd_obj.specs.Facing.{apart, has_ends, IsEdgeOf}
use Rattle.pbd_obj.specs.Nets.{pair_cmp}

-- what is known of an edge that these faces share
abbrev pub sharing : List Edge → Option Sharing
sharing [] = None
sharing (e ∷ []) = Some (One e)
sharing (e ∷ f ∷ []) = Some (Two e f)
sharing (e ∷ f ∷ g ∷ es) = Some More

-- and of one face more
abbrev pub with_one : Option Sharing → Edge → Sharing
with_one None e = One e
with_one (Some (One d)) e = Two d e
with_one (Some (Two c d)) e = More
with_one (Some More) e = More

-- the pairs across an edge
abbrev pub across_shared : Option Sharing → List (ℕ × ℕ)
across_shared (Some (Two e f)) = apart (e.beside_low, f.beside_low) ++ apart (e.beside_high, f.beside_high)
across_shared known = []

-- both edges of a sharing of two are of n vertices
abbrev pub SharesWithin : ℕ → Option Sharing → Type 0
SharesWithin n (Some (Two e f)) = IsEdgeOf n e × IsEdgeOf n f
SharesWithin n known = ⊤

-- for each edge, which of these share it
unfoldable pub HoldsShared : List Edge → BTreeMap (ℕ × ℕ) Sharing → Type 0
HoldsShared es shared = (ends : ℕ × ℕ) → get pair_cmp shared ends ≡ sharing (filter (has_ends ends) es)

-- one more was counted, whatever came before
abbrev pub Notes : Edge → BTreeMap (ℕ × ℕ) Sharing → BTreeMap (ℕ × ℕ) Sharing → Type 0
Notes e old now = (es : List Edge) → HoldsShared es old → HoldsShared (es ++ e ∷ []) now
