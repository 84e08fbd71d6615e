-- What the chains of the ends of a pair tell of its neighbours.
use Rattle.std.specs.Prelude.{ℕ, ◌/◌, ◌==◌, ◌&&◌, ◌||◌, nat_lt, Bool, List, slice_index}
use Rattle.std.specs.List.{list_any}
use Rattle.pbd_chain.specs.Linked.{chain_at}
use Rattle.pbd_world.specs.Colours.{pair_at, least_free}

-- an item of a pair before i that holds colour d
abbrev pub holds_before : List ℕ → ℕ → ℕ → ℕ → Bool
holds_before cs i d x = nat_lt (x / 2) i && slice_index cs (x / 2) == d

-- an item of pair k, which stands after i
abbrev pub is_later : ℕ → ℕ → ℕ → Bool
is_later i k x = x / 2 == k && nat_lt i (x / 2)

-- the least colour that no earlier pair in the chains of the ends of pair i holds, or 63
abbrev pub least_unheld : List (ℕ × ℕ) → List (List ℕ) → List ℕ → ℕ → ℕ
least_unheld pairs chains cs i =
    least_free (λ d. list_any (holds_before cs i d) (chain_at chains (pair_at pairs i).0)
    || list_any (holds_before cs i d) (chain_at chains (pair_at pairs i).1))

-- pair k stands after i, in the chain of an end of pair i
abbrev pub meets : List (ℕ × ℕ) → List (List ℕ) → ℕ → ℕ → Bool
meets pairs chains i k =
    list_any (is_later i k) (chain_at chains (pair_at pairs i).0)
    || list_any (is_later i k) (chain_at chains (pair_at pairs i).1)
