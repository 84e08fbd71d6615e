-- Chains as lists.
use Rattle.std.specs.Prelude.{◌≡◌, ℕ, ◌<◌, ◌≤◌, ◌==◌, Bool, not, IsTrue, List, [], ◌∷◌, Option, Some, length, map, filter, slice_get}
use Rattle.std.specs.Prelude.{slice_index_or, slice_set}
use Rattle.std.specs.List.{range_with_len, list_any}
use Rattle.pbd_chain.specs.declared.links.Slot.{Slot}
use Rattle.pbd_chain.specs.declared.links.Slot.TheVariants.{Head}
use Rattle.pbd_chain.specs.Succession.{at, back_of, IsSuccession, follow}

-- what chains are seen as: a number of items, and the items of each chain
pub record Linked : Type 0 where
  pub items : ℕ
  pub chains : List (List ℕ)

abbrev pub chain_at : List (List ℕ) → ℕ → List ℕ
chain_at chains c = slice_index_or chains c []

-- item k of a chain, or none behind its last
abbrev pub item_at : List (List ℕ) → ℕ → ℕ → Option ℕ
item_at chains c k = slice_get (chain_at chains c) k

-- the chains with an item before the first of one
abbrev pub with_front : List (List ℕ) → ℕ → ℕ → List (List ℕ)
with_front chains c x = slice_set chains c (x ∷ chain_at chains c)

-- an item is in a chain
abbrev pub is_in : ℕ → List ℕ → Bool
is_in x xs = list_any (λ y. y == x) xs

-- an item is in one of the chains
abbrev pub is_linked : List (List ℕ) → ℕ → Bool
is_linked chains x = list_any (is_in x) chains

abbrev pub without : ℕ → List ℕ → List ℕ
without x xs = filter (λ y. not (y == x)) xs

-- the chains that the slots show
abbrev pub chains_of : List (Option ℕ) → List (Option ℕ) → List (List ℕ)
chains_of heads next = map (λ c. follow (at heads next) (length next) (Head c)) (range_with_len 0 (length heads))

-- the slots show these chains
pub record Shows (heads next : List (Option ℕ)) (back : List (Option Slot)) (chains : List (List ℕ)) : Type 0 where
  pub few : length next ≤ 2097152
  pub backs : length back ≡ length next
  pub count : length chains ≡ length heads
  pub successions : (c : ℕ) → c < length heads → IsSuccession (at heads next) (back_of back) (Head c) (chain_at chains c)
  pub items : (c x : ℕ) → c < length heads → IsTrue (is_in x (chain_at chains c)) → x < length next
  pub linked : (x : ℕ) (s : Slot) → back_of back x ≡ Some s → (c : ℕ) × (c < length heads) × IsTrue (is_in x (chain_at chains c))
