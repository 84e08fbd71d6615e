-- Greedy colours of a list of pairs with live flags, and the order that they give.
use Rattle.std.specs.Prelude.{◌≡◌, ◌≢◌, ◌⊎◌, if◌then◌else◌, ℕ, zero, suc, ◌+◌, ◌<◌, ◌≤◌, ◌==◌, ◌&&◌, ◌||◌, Bool, false, IsTrue, List, []}
use Rattle.std.specs.Prelude.{◌∷◌, ◌++◌, slice_index, slice_index_or, filter, length}
use Rattle.std.specs.List.{range_with_len, flat_map}

abbrev pub pair_at : List (ℕ × ℕ) → ℕ → ℕ × ℕ
pair_at pairs k = slice_index_or pairs k (0, 0)

abbrev pub live_at : List Bool → ℕ → Bool
live_at live k = slice_index_or live k false

-- a particle is an end of the pair
abbrev pub is_end : ℕ × ℕ → ℕ → Bool
is_end pair p = pair.0 == p || pair.1 == p

abbrev pub share : ℕ × ℕ → ℕ × ℕ → Bool
share a b = is_end a b.0 || is_end a b.1

-- the test holds of some number below n
abbrev pub some_below : (ℕ → Bool) → ℕ → Bool
some_below test zero = false
some_below test (suc n) = test n || some_below test n

-- the first of the n numbers from c on that isn't taken, or c + n
abbrev pub first_free : (ℕ → Bool) → ℕ → ℕ → ℕ
first_free taken zero c = c
first_free taken (suc n) c = if taken c then first_free taken n (c + 1) else c

-- the least number in 0..=62 that isn't taken, or 63
unfoldable pub least_free : (ℕ → Bool) → ℕ
least_free taken = first_free taken 63 0

-- pair j is live and shares a particle with pair i
abbrev pub blocks : List (ℕ × ℕ) → List Bool → ℕ → ℕ → Bool
blocks pairs live i j = live_at live j && share (pair_at pairs j) (pair_at pairs i)

-- the colour of pair i, where cs are the colours of the pairs before it
abbrev pub next_colour : List (ℕ × ℕ) → List Bool → List ℕ → ℕ → ℕ
next_colour pairs live cs i = least_free (λ c. some_below (λ j. blocks pairs live i j && slice_index cs j == c) i)

-- the colours of the first n pairs
unfoldable pub colours : List (ℕ × ℕ) → List Bool → ℕ → List ℕ
colours pairs live zero = []
colours pairs live (suc n) = colours pairs live n ++ next_colour pairs live (colours pairs live n) n ∷ []

-- the colour of pair i: the least in 0..=62 that no live pair before it which shares a particle with it has, or 63
unfoldable pub colour : List (ℕ × ℕ) → List Bool → ℕ → ℕ
colour pairs live i = next_colour pairs live (colours pairs live i) i

-- c is the colour of pair i, where colour_of tells those of the pairs before it
pub record IsGreedy (pairs : List (ℕ × ℕ)) (live : List Bool) (colour_of : ℕ → ℕ) (i c : ℕ) : Type 0 where
  pub within : c ≤ 63
  pub free : c < 63 → (j : ℕ) → j < i → IsTrue (blocks pairs live i j) → colour_of j ≢ c
  pub least : (d : ℕ) → d < c → (j : ℕ) × (j < i) × IsTrue (blocks pairs live i j) × (colour_of j ≡ d)

-- the live numbers below n that have the colour, ascending
abbrev pub of_colour : List Bool → (ℕ → ℕ) → ℕ → ℕ → List ℕ
of_colour live colour_of n c = filter (λ i. live_at live i && colour_of i == c) (range_with_len 0 n)

-- the live numbers of colour 0 ascending, then those of colour 1, and so on up to colour 63
unfoldable pub order : List (ℕ × ℕ) → List Bool → List ℕ
order pairs live = flat_map (of_colour live (colour pairs live) (length pairs)) (range_with_len 0 64)

-- pair i is before pair j in that order: of a smaller colour, or of the same with a smaller number
abbrev pub IsEarlier : List (ℕ × ℕ) → List Bool → ℕ → ℕ → Type 0
IsEarlier pairs live i j = (colour pairs live i < colour pairs live j) ⊎ ((colour pairs live i ≡ colour pairs live j) × (i < j))

abbrev pub joins : ℕ × ℕ → ℕ → ℕ → Bool
joins pair a b = pair.0 == a && pair.1 == b || pair.0 == b && pair.1 == a

-- some live pair joins the two particles, in either order
abbrev pub joined : List (ℕ × ℕ) → List Bool → ℕ → ℕ → Bool
joined pairs live a b = some_below (λ k. live_at live k && joins (pair_at pairs k) a b) (length pairs)
