-- What the chains of a pair's two ends tell of the colours that its earlier live neighbours hold.
use Rattle.std.proofs.Common.{◌≡◌, ℕ, zero, suc, ◌+◌, ◌/◌, ◌<◌, ◌≤◌, ◌&&◌, ◌||◌, Bool, true, false, eqb, ltb, List, get_or, set, length}
use Rattle.std.proofs.Common.{refl, sym, ap, ◌∙◌, arith, inl, inr, [], ◌∷◌, take, Option, Some, slice_get, add-one}
use Rattle.std.proofs.lemmas.Bool.{cases_eq, lt-ltb, eq-eqb, ne_eqb, le-ltb}
use Rattle.std.proofs.lemmas.List.{take_all, get_or-set_same, get_or-set_other}
use Rattle.std.proofs.lemmas.List.Folds.{list_any-append}
use Rattle.std.specs.List.{list_any}
use Rattle.std.specs.Int.{bit_at}
use Rattle.pbd_chain.proofs.Walks.{take_get}
use Rattle.pbd_chain.specs.Linked.{Linked, chain_at}
use Rattle.pbd_world.specs.Colours.{pair_at, live_at, is_end, some_below, least_free}
use Rattle.pbd_colour.specs.Held.{Holds}
use Rattle.pbd_colour.specs.Mended.{holds_before, is_later, least_unheld}
use Rattle.pbd_world.proofs.GreedyLemmas.{least_free-agree, some_below-agree, some_below-or}
use Rattle.pbd_colour.proofs.Painting.{spread, none_or}
use Rattle.pbd_colour.proofs.Holding.{chain-tells}
use Rattle.pbd_colour.specs.Swept.{holds}
use Rattle.std.proofs.Math.Bool.{or-false}

-- only the numbers below i count
some_below-cut : (u v : ℕ → Bool) (i n : ℕ) → i ≤ n → some_below (λ k. u k && (ltb k i && v k)) n ≡ some_below (λ k. u k && v k) i
some_below-cut u v zero zero l = refl
some_below-cut u v (suc i) zero l = absurd (omega arith)
some_below-cut u v i (suc n) l = elim (cases_eq i (suc n)) [
  | inl e ↦ some_below-agree (λ k. u k && (ltb k i && v k)) (λ k. u k && v k) (suc n) (λ k lk. rw (lt-ltb k i (omega (arith, e, lk))) refl)
      ∙ ap (some_below (λ k. u k && v k)) (sym e)
  | inr ne ↦ rw (le-ltb n i (omega (arith, l, ne))) (none_or (u n) (some_below (λ k. u k && (ltb k i && v k)) n)
      ∙ some_below-cut u v i n (omega (arith, l, ne)))
]

-- a walk that gathers the colours
pub record IsUsing (cs : List ℕ) (i : ℕ) (chain : List ℕ) (at : Option ℕ) (k now : ℕ) : Type 0 where
  pub next : at ≡ slice_get chain k
  pub has : (d : ℕ) → d < 63 → eqb (bit_at now d) 1 ≡ list_any (holds_before cs i d) (take k chain)
  pub small : now < 9223372036854775808

any_one : (p : ℕ → Bool) (xs : List ℕ) (k x : ℕ) → slice_get xs k ≡ Some x → list_any p (take (k + 1) xs) ≡ (list_any p (take k xs) || p x)
any_one p xs k x e = ap (λ (n : ℕ). list_any p (take n xs)) (add-one k) ∙ ap (list_any p) (take_get xs k x e)
    ∙ list_any-append p (take k xs) (x ∷ []) ∙ ap (λ (b : Bool). list_any p (take k xs) || b) (or-false (p x))

or_join : (a b c : Bool) → ((a || b) || c) ≡ (a || (b || c))
or_join true b c = refl
or_join false b c = refl

pub IsUsing-more : (cs : List ℕ) (i : ℕ) (chain : List ℕ) (at : Option ℕ) (k now : ℕ) → IsUsing cs i chain at k now
    → (x new : ℕ) (next : Option ℕ) → at ≡ Some x → ((d : ℕ) → d < 63
    → eqb (bit_at new d) 1 ≡ (eqb (bit_at now d) 1 || (ltb (x / 2) i && eqb (get_or cs (x / 2) 0) d))) → new < 9223372036854775808
    → next ≡ slice_get chain (k + 1) → IsUsing cs i chain next (k + 1) new
IsUsing-more cs i chain at k now h x new next e more small after = record {
  next = after;
  small = small;
  has = λ d l. more d l ∙ ap (λ (b : Bool). b || holds_before cs i d x) (h.has d l)
      ∙ sym (any_one (holds_before cs i d) chain k x (sym h.next ∙ e));
}

pub IsUsing-all : (cs : List ℕ) (i : ℕ) (chain : List ℕ) (at : Option ℕ) (k now : ℕ) → IsUsing cs i chain at k now
    → length chain ≤ k → (d : ℕ) → d < 63 → eqb (bit_at now d) 1 ≡ list_any (holds_before cs i d) chain
IsUsing-all cs i chain at k now h l d m = h.has d m ∙ ap (list_any (holds_before cs i d)) (take_all k chain l)

module _ {particles room : ℕ} {pairs : List (ℕ × ℕ)} (live : List Bool) {held : Linked} (h : Holds (live_at live) particles room pairs held)
    (len : length live ≡ length pairs) (cs : List ℕ) (i : ℕ) (li : i ≤ length pairs) where
  pub end_tells : (p d : ℕ) → p < particles → list_any (holds_before cs i d) (chain_at held.chains p)
      ≡ some_below (λ j. (live_at live j && is_end (pair_at pairs j) p) && eqb (get_or cs j 0) d) i
  end_tells p d lp = chain-tells live h len p lp (λ k. ltb k i && eqb (get_or cs k 0) d)
      ∙ some_below-cut (λ k. live_at live k && is_end (pair_at pairs k) p) (λ k. eqb (get_or cs k 0) d) i (length pairs) li

  -- the least colour in no earlier item of either chain is the least that no earlier live neighbour holds
  pub chains_tell : (pair_at pairs i).0 < particles → (pair_at pairs i).1 < particles
      → least_unheld pairs held.chains cs i ≡ least_free (λ d. some_below (holds pairs live cs i d) i)
  chains_tell la lb = least_free-agree _ _ (λ d _.
      ap (λ (b : Bool). b || list_any (holds_before cs i d) (chain_at held.chains (pair_at pairs i).1)) (end_tells (pair_at pairs i).0 d la)
      ∙ ap (λ (b : Bool). some_below (λ j. (live_at live j && is_end (pair_at pairs j) (pair_at pairs i).0) && eqb (get_or cs j 0) d) i
      || b) (end_tells (pair_at pairs i).1 d lb)
      ∙ sym (some_below-or (holds pairs live cs i d) _ _ i (λ j m.
      spread (live_at live j) (is_end (pair_at pairs j) (pair_at pairs i).0) (is_end (pair_at pairs j) (pair_at pairs i).1)
      (eqb (get_or cs j 0) d))))

-- a walk that marks the pairs after i
pub record IsMarking (i : ℕ) (chain : List ℕ) (at : Option ℕ) (n : ℕ) (old now : List Bool) : Type 0 where
  pub next : at ≡ slice_get chain n
  pub marked : (k : ℕ) → live_at now k ≡ (live_at old k || list_any (is_later i k) (take n chain))

pub IsMarking-more : (i : ℕ) (chain : List ℕ) (at : Option ℕ) (n : ℕ) (old now : List Bool) → IsMarking i chain at n old now
    → (x : ℕ) (b : Bool) (next : Option ℕ) → at ≡ Some x → x / 2 < length now → b ≡ (live_at now (x / 2) || ltb i (x / 2))
    → next ≡ slice_get chain (n + 1) → IsMarking i chain next (n + 1) old (set now (x / 2) b)
IsMarking-more i chain at n old now h x b next e l is after = record {
  next = after;
  marked = λ k. step k ∙ ap (λ (c : Bool). c || is_later i k x) (h.marked k)
      ∙ or_join (live_at old k) (list_any (is_later i k) (take n chain)) (is_later i k x)
      ∙ ap (λ (c : Bool). live_at old k || c) (sym (any_one (is_later i k) chain n x (sym h.next ∙ e)));
}
  where
    none : (c : Bool) → c ≡ (c || false)
    none true = refl
    none false = refl

    step : (k : ℕ) → live_at (set now (x / 2) b) k ≡ (live_at now k || (eqb (x / 2) k && ltb i (x / 2)))
    step k = elim (cases_eq (x / 2) k) [
      | inl s ↦ rw (← s, get_or-set_same now (x / 2) b false l, eq-eqb (x / 2) (x / 2) refl) is
      | inr ne ↦ rw (get_or-set_other now (x / 2) k b false (λ s. ne (sym s)), ne_eqb (x / 2) k ne) (none (live_at now k))
    ]

pub IsMarking-all : (i : ℕ) (chain : List ℕ) (at : Option ℕ) (n : ℕ) (old now : List Bool) → IsMarking i chain at n old now
    → length chain ≤ n → (k : ℕ) → live_at now k ≡ (live_at old k || list_any (is_later i k) chain)
IsMarking-all i chain at n old now h l k = h.marked k ∙ ap (λ (xs : List ℕ). live_at old k || list_any (is_later i k) xs)
    (take_all n chain l)
