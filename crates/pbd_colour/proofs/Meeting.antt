-- The neighbours of a pair stand in the chains of its ends, and the sweep begins and goes on by them.
use Rattle.std.proofs.Common.{◌≡◌, ℕ, suc, ◌+◌, ◌/◌, ◌<◌, ◌≤◌, ◌&&◌, ◌||◌, Bool, true, false, eqb, ltb, List, [], ◌∷◌, get_or, set, length, refl, sym}
use Rattle.std.proofs.Common.{ap, ◌∙◌, arith, inl, inr}
use Rattle.std.proofs.lemmas.Bool.{cases_eq, cases_lt, cases_Bool, eq-eqb, lt-ltb, and_from, or_cases, false≢true, or_right, or_left}
use Rattle.std.proofs.lemmas.Bool.{or_parts}
use Rattle.std.proofs.lemmas.List.{get_or-set_same, get_or-set_other, get_or_past, length-set}
use Rattle.std.specs.List.{list_any}
use Rattle.pbd_chain.specs.Linked.{Linked, chain_at, is_in}
use Rattle.pbd_world.specs.Colours.{pair_at, live_at, is_end, share}
use Rattle.pbd_world.proofs.GreedyLemmas.{some_below-decides}
use Rattle.pbd_colour.specs.Pairs.{InRange, dropped}
use Rattle.pbd_colour.specs.Held.{AreHeld, Holds}
use Rattle.pbd_colour.specs.Mended.{is_later, meets, least_unheld}
use Rattle.pbd_colour.specs.Swept.{ArePainted, IsSwept}
use Rattle.pbd_colour.proofs.Batches.{share_turn}
use Rattle.pbd_colour.proofs.Holding.{chain-tells, held_within}
use Rattle.pbd_colour.proofs.Mending.{chains_tell}
use Rattle.pbd_colour.proofs.Sweeping.{IsSwept-none, IsSwept-more_same, IsSwept-more_changed}
use Rattle.std.proofs.Math.Bool.{and-false}

-- an item of a chain is of one of the pairs
pub items_within : {pairs : List (ℕ × ℕ)} {live : List Bool} {chains : Linked} → AreHeld pairs live chains → (n : ℕ) → length pairs ≤ n
    → (p x : ℕ) → p < length chains.chains → is_in x (chain_at chains.chains p) ≡ true → x / 2 < n
items_within {live = live} h n l p x lp i = omega (arith, held_within live h.held h.flags p lp x i, l)

module _ {particles room : ℕ} {pairs : List (ℕ × ℕ)} (live : List Bool) {held : Linked} (h : Holds (live_at live) particles room pairs held)
    (len : length live ≡ length pairs) (range : InRange particles pairs) where
  met_at : (p i k : ℕ) → p < particles → i < k → k < length pairs → live_at live k ≡ true → is_end (pair_at pairs k) p ≡ true
      → list_any (is_later i k) (chain_at held.chains p) ≡ true
  met_at p i k lp l lk a e = chain-tells live h len p lp (λ j. eqb j k && ltb i j)
      ∙ (some_below-decides (λ j. (live_at live j && is_end (pair_at pairs j) p) && (eqb j k && ltb i j)) (length pairs)).1
      (k, lk, and_from _ _ (and_from _ _ a e) (and_from _ _ (eq-eqb k k refl) (lt-ltb i k l)))

  shares-meets : (i k : ℕ) → i < k → k < length pairs → live_at live k ≡ true → share (pair_at pairs i) (pair_at pairs k) ≡ true
      → meets pairs held.chains i k ≡ true
  shares-meets i k l lk a s =
      let r = range i (omega (arith, l, lk)) in
      elim (or_cases (is_end (pair_at pairs k) (pair_at pairs i).0) (is_end (pair_at pairs k) (pair_at pairs i).1)
      (share_turn (pair_at pairs k) (pair_at pairs i) ∙ s)) [
        | inl e ↦ or_left _ _ (met_at (pair_at pairs i).0 i k r.0 l lk a e)
        | inr e ↦ or_right _ _ (met_at (pair_at pairs i).1 i k r.1 l lk a e)
      ]

  -- a live pair that isn't met shares no particle
  unmet : (i k : ℕ) → i < k → k < length pairs → live_at live k ≡ true → meets pairs held.chains i k ≡ false
      → share (pair_at pairs i) (pair_at pairs k) ≡ false
  unmet i k l lk a u = elim (cases_Bool (share (pair_at pairs i) (pair_at pairs k))) [
    | inl t ↦ absurd (false≢true (sym u ∙ shares-meets i k l lk a t))
    | inr f ↦ f
  ]

  -- pair p gets the colour that the chains tell, and the pairs that it meets are marked
  pub IsSwept-again : (cs : List ℕ) (marked marks : List Bool) (p c : ℕ) → IsSwept pairs live cs marked p → p < length pairs → p < length cs
      → c ≡ least_unheld pairs held.chains cs p
      → ((k : ℕ) → live_at marks k ≡ (live_at marked k || meets pairs held.chains p k)) → IsSwept pairs live (set cs p c) marks (p + 1)
  IsSwept-again cs marked marks p c swept lp lc e told =
      let r = range p lp in
      IsSwept-more_changed pairs live swept c marks lc (e ∙ chains_tell live h len cs p (omega (arith, lp)) r.0 r.1)
      (λ i l m a u. let n = or_parts _ _ (sym (told i) ∙ u) in (n.0, rw (unmet p i l m a n.1) (and-false (live_at live p))))

  -- pair p has the colour that the chains tell
  pub IsSwept-kept : (cs : List ℕ) (marked : List Bool) (p : ℕ) → IsSwept pairs live cs marked p → p < length pairs
      → get_or cs p 0 ≡ least_unheld pairs held.chains cs p → IsSwept pairs live cs marked (p + 1)
  IsSwept-kept cs marked p swept lp e = let r = range p lp in
      IsSwept-more_same pairs live swept (e ∙ chains_tell live h len cs p (omega (arith, lp)) r.0 r.1)

-- ---- dropped pairs
set_live : (live : List Bool) (n i : ℕ) → live_at (set live n false) i ≡ true → live_at live i ≡ true
set_live live n i e = elim (cases_eq i n) [
  | inl s ↦ elim (cases_lt n (length live)) [
    | inl m ↦ absurd (false≢true (sym (ap (live_at (set live n false)) s ∙ get_or-set_same live n false false m) ∙ e))
    | inr m ↦ absurd (false≢true (sym (get_or_past (set live n false) i false (let q = length-set live n false in omega (arith, q, s, m)))
        ∙ e))
  ]
  | inr ne ↦ sym (get_or-set_other live n i false false ne) ∙ e
]

dropped_live : (numbers : List ℕ) (live : List Bool) (i : ℕ) → live_at (dropped numbers live) i ≡ true → live_at live i ≡ true
dropped_live [] live i e = e
dropped_live (n ∷ ns) live i e = set_live live n i (dropped_live ns (set live n false) i e)

-- a pair that was live and isn't any more is of the numbers
dropped_in : (numbers : List ℕ) (live : List Bool) (i : ℕ) → live_at live i ≡ true → live_at (dropped numbers live) i ≡ false
    → (m : ℕ) × (m < length numbers) × (get_or numbers m 0 ≡ i)
dropped_in [] live i was dead = absurd (false≢true (sym dead ∙ was))
dropped_in (n ∷ ns) live i was dead = elim (cases_eq i n) [
  | inl s ↦ (0, omega arith, sym s)
  | inr ne ↦ (let w = dropped_in ns (set live n false) i (get_or-set_other live n i false false ne ∙ was) dead in
      (suc w.0, omega (arith, w.1), w.2))
]

-- after the taking out and the marking, the sweep may begin
pub IsSwept-begun : {pairs : List (ℕ × ℕ)} {live : List Bool} {cs : List ℕ} {marks : List Bool} {held : Linked} (was : List Bool) (numbers : List ℕ)
    → live ≡ dropped numbers was → ArePainted pairs was cs → AreHeld pairs live held
    → ((m k : ℕ) → m < length numbers → meets pairs held.chains (get_or numbers m 0) k ≡ true → live_at marks k ≡ true)
    → IsSwept pairs live cs marks 0
IsSwept-begun {pairs} {live} {cs} {marks} {held} was numbers e painted h marked =
    IsSwept-none pairs was live cs marks painted (λ i a. dropped_live numbers was i (ap (λ (bs : List Bool). live_at bs i) (sym e) ∙ a))
    (λ i l a u j lj alive dead. let w = dropped_in numbers was j alive (ap (λ (bs : List Bool). live_at bs j) (sym e) ∙ dead) in
    unmet live h.held h.flags h.in_range j i lj l a (elim (cases_Bool (meets pairs held.chains j i)) [
      | inl t ↦ absurd (false≢true (sym u ∙ marked w.0 i w.1 (ap (λ (n : ℕ). meets pairs held.chains n i) w.2 ∙ t)))
      | inr f ↦ f
    ]))
