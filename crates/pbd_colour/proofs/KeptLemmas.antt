-- What a colouring keeps tells its batches.
use Rattle.std.proofs.Common.{◌≡◌, refl, inl, inr, false, ℕ, ◌+◌, ◌/◌, ◌&&◌, eqb, ◌<◌, ◌≤◌, Bool, true, List, [], ◌∷◌, replicate, get_or}
use Rattle.std.proofs.Common.{length, sym, ap, subst, ◌∙◌, arith, slice_range}
use Rattle.std.proofs.lemmas.Bool.{cases_lt, false≢true}
use Rattle.std.proofs.lemmas.List.{get_or_past, get_or-replicate}
use Rattle.pbd_chain.specs.Linked.{Linked, is_in, chain_at}
use Rattle.pbd_world.specs.Lending.{overwritten, overwritten_is}
use Rattle.pbd_world.specs.Colours.{live_at, colour}
use Rattle.pbd_colour.specs.Pairs.{InRange, batch_of}
use Rattle.pbd_colour.specs.Held.{Holds, end_at}
use Rattle.pbd_colour.specs.Marked.{AreBlocked}
use Rattle.pbd_colour.specs.Coloured.{by_colour}
use Rattle.pbd_colour.specs.Coloured.{IsColoured}
use Rattle.pbd_colour.specs.Swept.{ArePainted}
use Rattle.pbd_world.proofs.GreedyLemmas.{colour-is_greedy}
use Rattle.pbd_colour.proofs.Gathering.{by_colour-agree, length-by_colour_le, order_is, begins_within, piece_is}

-- colours that are right are below 64
pub painted_within : (pairs : List (ℕ × ℕ)) (live : List Bool) (colours : List ℕ) → ArePainted pairs live colours
    → length live ≡ length pairs → (i : ℕ) → i < length live → live_at live i ≡ true → get_or colours i 0 < 64
painted_within pairs live colours painted len i l a = let w = colour-is_greedy pairs live i in
    omega (arith, painted i (omega (arith, len, l)) a, w.within)

no_more : (xs : List ℕ) → length xs ≤ 0 → xs ≡ []
no_more [] l = refl
no_more (x ∷ xs) l = absurd (omega (arith, l))

-- what `gather` lists by colours that are right
pub IsColoured-gathered : (pairs : List (ℕ × ℕ)) (live : List Bool) (colours numbers starts : List ℕ) → length live ≡ length pairs
    → ArePainted pairs live colours
    → numbers ≡ by_colour live (λ k. get_or colours k 0) (length live) 64
    → ((c : ℕ) → c < 65 → get_or starts c 0 ≡ length (by_colour live (λ k. get_or colours k 0) (length live) c))
    → IsColoured pairs live colours numbers starts
IsColoured-gathered pairs live colours numbers starts len painted listed started =
    let same : (m : ℕ) → by_colour live (λ k. get_or colours k 0) (length live) m ≡ by_colour live (colour pairs live) (length pairs) m =
    λ m. by_colour-agree live _ (colour pairs live) (length live) (λ i l a. painted i (omega (arith, len, l)) a) m
    ∙ ap (λ (n : ℕ). by_colour live (colour pairs live) n m) len in
    record { painted = painted; ordered = listed ∙ same 64 ∙ order_is pairs live; started = λ c l. started c l ∙ ap length (same c) }

-- the same where what was listed is told of equal lists
pub IsColoured-read : {pairs : List (ℕ × ℕ)} {live live' : List Bool} {colours colours' numbers starts starts' : List ℕ}
    → live' ≡ live → colours' ≡ colours → starts' ≡ starts → length live ≡ length pairs → ArePainted pairs live colours
    → numbers ≡ by_colour live' (λ k. get_or colours' k 0) (length live') 64
    → ((c : ℕ) → c < 65 → get_or starts c 0 ≡ length (by_colour live' (λ k. get_or colours' k 0) (length live') c))
    → IsColoured pairs live colours numbers starts'
IsColoured-read {pairs} {live} {live'} {colours} {colours'} {numbers} {starts} l c s len painted listed started =
    let same : (m : ℕ) → by_colour live' (λ k. get_or colours' k 0) (length live') m ≡ by_colour live (λ k. get_or colours k 0) (length live) m =
    λ m. ap (λ (bs : List Bool). by_colour bs (λ k. get_or colours' k 0) (length bs) m) l
    ∙ ap (λ (cs : List ℕ). by_colour live (λ k. get_or cs k 0) (length live) m) c in
    subst (IsColoured pairs live colours numbers) (sym s)
    (IsColoured-gathered pairs live colours numbers starts len painted (listed ∙ same 64) (λ d m. started d m ∙ ap length (same d)))

IsColoured-none : (starts : List ℕ) → ((c : ℕ) → c < 65 → get_or starts c 0 ≡ 0) → IsColoured [] [] [] [] starts
IsColoured-none starts none =
    let listed : (m : ℕ) → by_colour [] (λ k. get_or [] k 0) 0 m ≡ [] = λ m. no_more _ (length-by_colour_le [] (λ k. get_or [] k 0) 0 m) in
    IsColoured-gathered [] [] [] [] starts refl (λ i l a. absurd (omega (arith, l))) (sym (listed 64))
    (λ c l. none c l ∙ sym (ap length (listed c)))

-- where there are no pairs yet
pub IsColoured-opened : {pairs : List (ℕ × ℕ)} {live : List Bool} {colours numbers starts : List ℕ} → pairs ≡ [] → live ≡ [] → colours ≡ []
    → numbers ≡ [] → starts ≡ replicate 65 0 → IsColoured pairs live colours numbers starts
IsColoured-opened {starts = starts} p l c n s = rw (p, l, c, n)
    (IsColoured-none starts (λ d q. ap (λ (ss : List ℕ). get_or ss d 0) s ∙ get_or-replicate 65 d 0 0 q))

module _ {pairs : List (ℕ × ℕ)} {live : List Bool} {colours numbers starts : List ℕ}
    (h : IsColoured pairs live colours numbers starts) where
  all_listed : numbers ≡ by_colour live (colour pairs live) (length pairs) 64
  all_listed = h.ordered ∙ sym (order_is pairs live)

  -- no more numbers than pairs
  pub numbers_few : length numbers ≤ length pairs
  numbers_few = omega (arith, ap length all_listed, length-by_colour_le live (colour pairs live) (length pairs) 64)

  pub starts_ordered : (c : ℕ) → c < 64 → get_or starts c 0 ≤ get_or starts (c + 1) 0
  starts_ordered c l = omega (
    arith,
    h.started c (omega arith),
    h.started (c + 1) (omega arith),
    begins_within live (colour pairs live) (length pairs) c (c + 1) (omega arith),
  )

  pub starts_within : (c : ℕ) → c < 65 → get_or starts c 0 ≤ length numbers
  starts_within c l = omega (
    arith,
    h.started c l,
    ap length all_listed,
    begins_within live (colour pairs live) (length pairs) c 64 (omega arith),
  )

  pub batch_is : (c : ℕ) → c < 64 → slice_range numbers (get_or starts c 0) (get_or starts (c + 1) 0) ≡ batch_of pairs live c
  batch_is c l = ap (λ (xs : List ℕ). slice_range xs (get_or starts c 0) (get_or starts (c + 1) 0)) all_listed
      ∙ ap (λ (s : ℕ). slice_range (by_colour live (colour pairs live) (length pairs) 64) s (get_or starts (c + 1) 0))
      (h.started c (omega arith))
      ∙ ap (λ (e : ℕ). slice_range (by_colour live (colour pairs live) (length pairs) 64)
      (length (by_colour live (colour pairs live) (length pairs) c)) e) (h.started (c + 1) (omega arith))
      ∙ piece_is live (colour pairs live) (length pairs) c 64 (omega arith)

-- a number of a live pair is in range
pub live_below : (live : List Bool) (k : ℕ) → live_at live k ≡ true → k < length live
live_below live k a = elim (cases_lt k (length live)) [
  | inl l ↦ l
  | inr l ↦ absurd (false≢true (sym (get_or_past live k false (omega (arith, l))) ∙ a))
]

-- a list over which a loan has left others, as many as it lent
pub record IsWritten {A : Type 0} (xs left : List A) (n : ℕ) : Type 0 where
  pub is : overwritten xs left ≡ left
  pub long : length (overwritten xs left) ≡ n

pub written : {A : Type 0} {xs lent : List A} {n : ℕ} (left : List A) → length left ≡ length lent → lent ≡ xs → length xs ≡ n → IsWritten xs left n
written {xs = xs} left kept lends long =
    let is = overwritten_is xs left (kept ∙ ap length lends) in
    record { is = is; long = ap length is ∙ kept ∙ ap length lends ∙ long }

-- empty chains
pub no_items : (live : List Bool) (n : ℕ) (pairs : List (ℕ × ℕ)) (p x : ℕ) → live_at live (x / 2) ≡ false → p < n
    → is_in x (chain_at (replicate n []) p) ≡ (live_at live (x / 2) && eqb (end_at pairs x) p)
no_items live n pairs p x dead l = ap (is_in x) (get_or-replicate n p [] [] l) ∙ ap (λ (b : Bool). b && eqb (end_at pairs x) p) (sym dead)

-- the same of equal lists

pub InRange-as : {n m : ℕ} {pairs others : List (ℕ × ℕ)} → n ≡ m → pairs ≡ others → InRange n pairs → InRange m others
InRange-as {n} {m} {pairs} {others} count e h = subst (λ (ps : List (ℕ × ℕ)). InRange m ps) e (subst (λ (k : ℕ). InRange k pairs) count h)

pub ArePainted-as : {pairs pairs' : List (ℕ × ℕ)} {live live' : List Bool} {colours colours' : List ℕ} → pairs ≡ pairs' → live ≡ live'
    → colours ≡ colours' → ArePainted pairs live colours → ArePainted pairs' live' colours'
ArePainted-as {pairs} {pairs'} {live} {live'} {colours} p l c h =
    subst (λ (cs : List ℕ). ArePainted pairs' live' cs) c (subst (λ (bs : List Bool). ArePainted pairs' bs colours) l
    (subst (λ (ps : List (ℕ × ℕ)). ArePainted ps live colours) p h))

pub AreBlocked-as : {marks marks' blocks blocks' : List Bool} → marks ≡ marks' → blocks ≡ blocks' → AreBlocked marks blocks
    → AreBlocked marks' blocks'
AreBlocked-as {marks} {marks'} {blocks} m b h = subst (λ (bs : List Bool). AreBlocked marks' bs) b
    (subst (λ (ms : List Bool). AreBlocked ms blocks) m h)

pub Holds-as : {live live' : List Bool} {count count' room room' : ℕ} {pairs pairs' : List (ℕ × ℕ)} {chains : Linked} → live ≡ live'
    → count ≡ count' → room ≡ room' → pairs ≡ pairs' → Holds (live_at live) count room pairs chains
    → Holds (live_at live') count' room' pairs' chains
Holds-as {live} {live'} {count} {count'} {room} {room'} {pairs} {pairs'} {chains} l n r p h =
    subst (λ (bs : List Bool). Holds (live_at bs) count' room' pairs' chains) l
    (subst (λ (k : ℕ). Holds (live_at live) k room' pairs' chains) n
    (subst (λ (k : ℕ). Holds (live_at live) count k pairs' chains) r
    (subst (λ (ps : List (ℕ × ℕ)). Holds (live_at live) count room ps chains) p h)))
