-- The chains of the pairs of each particle.
use Rattle.std.proofs.Common.{◌≡◌, ◌≢◌, ℕ, zero, suc, ◌+◌, ◌-◌, ◌*◌, ◌/◌, ◌%◌, ◌<◌, ◌≤◌, ◌&&◌, ◌||◌, Bool, true, false, not, cond, eqb, ltb}
use Rattle.std.proofs.Common.{List, [], ◌∷◌, get_or, set, map, length, take, drop, slice_range, refl, sym, ap, ◌∙◌, subst, arith, inl, inr, add-one, ◌⊎◌}
use Rattle.std.proofs.Common.{Option, slice_get}
use Rattle.std.proofs.lemmas.Bool.{cases_eq, cases_lt, eq-eqb, ne_eqb, and_parts, and_from, lt-ltb, false≢true, or_right, or_left, or_cases}
use Rattle.std.proofs.lemmas.Bool.Decides.{nat_tests}
use Rattle.std.proofs.lemmas.List.{get_or-set_same, get_or-set_other, get_or_past, get_or-take, get_or-drop, take_all}
use Rattle.std.specs.List.{list_any}
use Rattle.std.specs.List.Sorted.{IsStrictlyIncreasing}
use Rattle.pbd_chain.specs.Linked.{Linked, is_in, is_linked, chain_at, without}
use Rattle.pbd_chain.proofs.Walks.{chain_linked, not_linked, in_linked, in_unlinked, any_here, any_found}
use Rattle.pbd_world.specs.Colours.{pair_at, live_at, is_end, some_below, joins, joined}
use Rattle.pbd_colour.specs.Pairs.{dropped}
use Rattle.pbd_colour.specs.Held.{end_at, far_at, Holds}
use Rattle.pbd_world.proofs.GreedyLemmas.{some_below-decides, same_truth}
use Rattle.std.proofs.Math.Bool.{and-false}

pub even_half : (k : ℕ) → 2 * k / 2 ≡ k
even_half k = omega arith

pub odd_half : (k : ℕ) → (2 * k + 1) / 2 ≡ k
odd_half k = omega arith

even_rest : (k : ℕ) → eqb (2 * k % 2) 0 ≡ true
even_rest k = eq-eqb _ _ (omega arith)

odd_rest : (k : ℕ) → eqb ((2 * k + 1) % 2) 0 ≡ false
odd_rest k = ne_eqb _ _ (λ e. absurd (omega arith))

end_even : (pairs : List (ℕ × ℕ)) (k : ℕ) → end_at pairs (2 * k) ≡ (pair_at pairs k).0
end_even pairs k = rw (even_rest k, even_half k) refl

end_odd : (pairs : List (ℕ × ℕ)) (k : ℕ) → end_at pairs (2 * k + 1) ≡ (pair_at pairs k).1
end_odd pairs k = rw (odd_rest k, odd_half k) refl

far_even : (pairs : List (ℕ × ℕ)) (k : ℕ) → far_at pairs (2 * k) ≡ (pair_at pairs k).1
far_even pairs k = rw (even_rest k, even_half k) refl

far_odd : (pairs : List (ℕ × ℕ)) (k : ℕ) → far_at pairs (2 * k + 1) ≡ (pair_at pairs k).0
far_odd pairs k = rw (odd_rest k, odd_half k) refl

item_even : (test : ℕ → Bool) (pairs : List (ℕ × ℕ)) (k p : ℕ)
    → (test (2 * k / 2) && eqb (end_at pairs (2 * k)) p) ≡ (test k && eqb (pair_at pairs k).0 p)
item_even test pairs k p = rw (even_rest k, even_half k) refl

item_odd : (test : ℕ → Bool) (pairs : List (ℕ × ℕ)) (k p : ℕ)
    → (test ((2 * k + 1) / 2) && eqb (end_at pairs (2 * k + 1)) p) ≡ (test k && eqb (pair_at pairs k).1 p)
item_odd test pairs k p = rw (odd_rest k, odd_half k) refl

-- an item is the first end of pair k, the second, or of another pair
data Which (k x : ℕ) : Type 0 where
  Even : x ≡ 2 * k → Which k x
  Odd : x ≡ 2 * k + 1 → Which k x
  Other : x ≢ 2 * k → x ≢ 2 * k + 1 → x / 2 ≢ k → Which k x

which : (k x : ℕ) → Which k x
which k x = elim (cases_eq x (2 * k)) [
  | inl e ↦ Even e
  | inr ne ↦ elim (cases_eq x (2 * k + 1)) [
    | inl e ↦ Odd e
    | inr nf ↦ Other ne nf (λ e. absurd (omega arith))
  ]
]

length-map : (f : List ℕ → List ℕ) (xss : List (List ℕ)) → length (map f xss) ≡ length xss
length-map f [] = refl
length-map f (xs ∷ xss) = ap suc (length-map f xss)

length-set : (xss : List (List ℕ)) (c : ℕ) (xs : List ℕ) → length (set xss c xs) ≡ length xss
length-set [] c xs = refl
length-set (ys ∷ xss) zero xs = refl
length-set (ys ∷ xss) (suc c) xs = ap suc (length-set xss c xs)

pub not_below : (i : ℕ) → ltb i i ≡ false
not_below i = grind (arith, nat_tests)

pub below_next : (i : ℕ) → ltb i (i + 1) ≡ true
below_next i = lt-ltb i (i + 1) (omega arith)

pub below_other : (k i : ℕ) → k ≢ i → ltb k i ≡ ltb k (i + 1)
below_other k i ne = grind (arith, nat_tests)

-- ---- a pair that isn't held is put in
module _ {particles room : ℕ} (i : ℕ) {pairs : List (ℕ × ℕ)} {held : Linked} {test : ℕ → Bool}
    (h : Holds test particles room pairs held) (out : test i ≡ false) where
  pub first_free : is_linked held.chains (2 * i) ≡ false
  first_free = not_linked held.chains (2 * i) (λ c l. h.holds c (2 * i) (omega (arith, h.count, l)) ∙ item_even test pairs i c
      ∙ rw out refl)

  second_first : (first : Linked) → (pair_at pairs i).0 < particles
      → first ≡ record held { chains = set held.chains (pair_at pairs i).0 ((2 * i) ∷ chain_at held.chains (pair_at pairs i).0) }
      → (p x : ℕ) → is_in x (chain_at first.chains p) ≡ ((eqb (pair_at pairs i).0 p && eqb (2 * i) x) || is_in x (chain_at held.chains p))
  second_first first la e p x = ap (λ (l : Linked). is_in x (chain_at l.chains p)) e
      ∙ in_linked held.chains (pair_at pairs i).0 (2 * i) (omega (arith, h.count, la)) p x

  pub second_free : (first : Linked) → (pair_at pairs i).0 < particles
      → first ≡ record held { chains = set held.chains (pair_at pairs i).0 ((2 * i) ∷ chain_at held.chains (pair_at pairs i).0) }
      → is_linked first.chains (2 * i + 1) ≡ false
  second_free first la e = not_linked first.chains (2 * i + 1) (λ c l.
      let len : length first.chains ≡ length held.chains = ap (λ (q : Linked). length q.chains) e ∙ length-set held.chains _ _ in
      let differ : eqb (2 * i) (2 * i + 1) ≡ false = ne_eqb _ _ (λ s. absurd (omega arith)) in
      let old : is_in (2 * i + 1) (chain_at held.chains c) ≡ false = h.holds c (2 * i + 1) (omega (arith, h.count, len, l))
      ∙ item_odd test pairs i c ∙ rw out refl in
      second_first first la e c (2 * i + 1) ∙ rw (differ, old) (none_here (eqb (pair_at pairs i).0 c)))
    where
      none_here : (b : Bool) → ((b && false) || false) ≡ false
      none_here true = refl
      none_here false = refl

  -- the test passes pair i from now on, and else what it has passed
  pub Holds-more : (next : ℕ → Bool) → next i ≡ true → ((k : ℕ) → k ≢ i → test k ≡ next k)
      → (first second : Linked) → (pair_at pairs i).0 < particles → (pair_at pairs i).1 < particles
      → first ≡ record held { chains = set held.chains (pair_at pairs i).0 ((2 * i) ∷ chain_at held.chains (pair_at pairs i).0) }
      → second ≡ record first { chains = set first.chains (pair_at pairs i).1 ((2 * i + 1) ∷ chain_at first.chains (pair_at pairs i).1) }
      → Holds next particles room pairs second
  Holds-more next in_now others first second la lb e f =
      let len : length first.chains ≡ length held.chains = ap (λ (q : Linked). length q.chains) e ∙ length-set held.chains _ _ in
      record {
        items = ap (λ (q : Linked). q.items) f ∙ ap (λ (q : Linked). q.items) e ∙ h.items;
        count = ap (λ (q : Linked). length q.chains) f ∙ length-set first.chains _ _ ∙ len ∙ h.count;
        holds = λ p x l. ap (λ (q : Linked). is_in x (chain_at q.chains p)) f
            ∙ in_linked first.chains (pair_at pairs i).1 (2 * i + 1) (omega (arith, len, h.count, lb)) p x
            ∙ ap (λ (b : Bool). (eqb (pair_at pairs i).1 p && eqb (2 * i + 1) x) || b)
            (second_first first la e p x ∙ ap (λ (b : Bool). (eqb (pair_at pairs i).0 p && eqb (2 * i) x) || b) (h.holds p x l))
            ∙ end_tested p x (which i x);
      }
    where
      left : (a b r : Bool) → ((b && false) || ((a && true) || (false && r))) ≡ a
      left true true r = refl
      left true false r = refl
      left false true r = refl
      left false false r = refl

      right : (a b r : Bool) → ((b && true) || ((a && false) || (false && r))) ≡ b
      right a true r = refl
      right true false r = refl
      right false false r = refl

      others_stay : (a b r : Bool) → ((b && false) || ((a && false) || r)) ≡ r
      others_stay true true r = refl
      others_stay true false r = refl
      others_stay false true r = refl
      others_stay false false r = refl

      end_tested : (p x : ℕ) → Which i x → ((eqb (pair_at pairs i).1 p && eqb (2 * i + 1) x)
          || ((eqb (pair_at pairs i).0 p && eqb (2 * i) x) || (test (x / 2) && eqb (end_at pairs x) p)))
          ≡ (next (x / 2) && eqb (end_at pairs x) p)
      end_tested p x (Even s) = let differ : eqb (2 * i + 1) (2 * i) ≡ false = ne_eqb _ _ (λ t. absurd (omega arith)) in
          rw (s, differ, eq-eqb (2 * i) (2 * i) refl, end_even pairs i, even_half i, out, in_now)
          (left (eqb (pair_at pairs i).0 p) (eqb (pair_at pairs i).1 p) (eqb (pair_at pairs i).0 p))
      end_tested p x (Odd s) = let differ : eqb (2 * i) (2 * i + 1) ≡ false = ne_eqb _ _ (λ t. absurd (omega arith)) in
          rw (s, differ, eq-eqb (2 * i + 1) (2 * i + 1) refl, end_odd pairs i, odd_half i, out, in_now)
          (right (eqb (pair_at pairs i).0 p) (eqb (pair_at pairs i).1 p) (eqb (pair_at pairs i).1 p))
      end_tested p x (Other na nb nk) =
          rw (ne_eqb (2 * i + 1) x (λ t. nb (sym t)), ne_eqb (2 * i) x (λ t. na (sym t)), others (x / 2) nk)
          (others_stay (eqb (pair_at pairs i).0 p) (eqb (pair_at pairs i).1 p) (next (x / 2) && eqb (end_at pairs x) p))

-- ---- pairs are taken out
module _ {particles room : ℕ} (i : ℕ) {pairs : List (ℕ × ℕ)} (live : List Bool) {held : Linked}
    (h : Holds (live_at live) particles room pairs held)
    (alive : live_at live i ≡ true) (la : (pair_at pairs i).0 < particles) (lb : (pair_at pairs i).1 < particles) where
  pub first_linked : is_linked held.chains (2 * i) ≡ true
  first_linked = chain_linked held.chains (pair_at pairs i).0 (2 * i) (omega (arith, h.count, la))
      (h.holds (pair_at pairs i).0 (2 * i) la ∙ item_even (live_at live) pairs i (pair_at pairs i).0 ∙ and_from _ _ alive (eq-eqb _ _ refl))

  pub second_linked : (first : Linked) → first ≡ record held { chains = map (without (2 * i)) held.chains }
      → is_linked first.chains (2 * i + 1) ≡ true
  second_linked first e =
      let differ : eqb (2 * i) (2 * i + 1) ≡ false = ne_eqb _ _ (λ s. absurd (omega arith)) in
      let len : length first.chains ≡ length held.chains = ap (λ (q : Linked). length q.chains) e ∙ length-map _ held.chains in
      chain_linked first.chains (pair_at pairs i).1 (2 * i + 1) (omega (arith, h.count, len, lb))
      (ap (λ (q : Linked). is_in (2 * i + 1) (chain_at q.chains (pair_at pairs i).1)) e
      ∙ in_unlinked held.chains (2 * i) (pair_at pairs i).1 (2 * i + 1)
      ∙ rw differ (h.holds (pair_at pairs i).1 (2 * i + 1) lb ∙ item_odd (live_at live) pairs i (pair_at pairs i).1
      ∙ and_from _ _ alive (eq-eqb _ _ refl)))

  pub Holds-less : (first second : Linked) → i < length live → first ≡ record held { chains = map (without (2 * i)) held.chains }
      → second ≡ record first { chains = map (without (2 * i + 1)) first.chains }
      → Holds (live_at (set live i false)) particles room pairs second
  Holds-less first second li e f = record {
    items = ap (λ (q : Linked). q.items) f ∙ ap (λ (q : Linked). q.items) e ∙ h.items;
    count = ap (λ (q : Linked). length q.chains) f ∙ length-map _ first.chains ∙ ap (λ (q : Linked). length q.chains) e
        ∙ length-map _ held.chains ∙ h.count;
    holds = λ p x l. ap (λ (q : Linked). is_in x (chain_at q.chains p)) f ∙ in_unlinked first.chains (2 * i + 1) p x
        ∙ ap (λ (b : Bool). not (eqb (2 * i + 1) x) && b) (ap (λ (q : Linked). is_in x (chain_at q.chains p)) e
        ∙ in_unlinked held.chains (2 * i) p x ∙ ap (λ (b : Bool). not (eqb (2 * i) x) && b) (h.holds p x l))
        ∙ end_left p x (which i x);
  }
    where
      end_left : (p x : ℕ) → Which i x → (not (eqb (2 * i + 1) x) && (not (eqb (2 * i) x) && (live_at live (x / 2) && eqb (end_at pairs x) p)))
          ≡ (live_at (set live i false) (x / 2) && eqb (end_at pairs x) p)
      end_left p x (Even s) = rw (s, eq-eqb (2 * i) (2 * i) refl, even_half i, get_or-set_same live i false false li) (and-false _)
      end_left p x (Odd s) = rw (s, eq-eqb (2 * i + 1) (2 * i + 1) refl, odd_half i, get_or-set_same live i false false li) refl
      end_left p x (Other na nb nk) = rw (
        ne_eqb (2 * i + 1) x (λ t. nb (sym t)),
        ne_eqb (2 * i) x (λ t. na (sym t)),
        get_or-set_other live i (x / 2) false false nk,
      ) refl

-- ---- what the chain of a particle tells
module _ {particles room : ℕ} {pairs : List (ℕ × ℕ)} (live : List Bool) {held : Linked} (h : Holds (live_at live) particles room pairs held)
    (len : length live ≡ length pairs) (i : ℕ) (li : i < particles) where
  pub held_within : (x : ℕ) → is_in x (chain_at held.chains i) ≡ true → x / 2 < length pairs
  held_within x e = let b = and_parts _ _ (sym (h.holds i x li) ∙ e) in elim (cases_lt (x / 2) (length pairs)) [
    | inl l ↦ l
    | inr l ↦ absurd (false≢true (sym (get_or_past live (x / 2) false (omega (arith, len, l))) ∙ b.0))
  ]

  seen : (j x : ℕ) (b : Bool) → eqb (x % 2) 0 ≡ b → eqb (end_at pairs x) i ≡ true → eqb (far_at pairs x) j ≡ true
      → joins (pair_at pairs (x / 2)) i j ≡ true
  seen j x true q e f = let e' = rw q at e in let f' = rw q at f in or_left _ _ (and_from _ _ e' f')
  seen j x false q e f = let e' = rw q at e in let f' = rw q at f in or_right _ _ (and_from _ _ f' e')

  there : (j : ℕ) → list_any (λ x. eqb (far_at pairs x) j) (chain_at held.chains i) ≡ true → joined pairs live i j ≡ true
  there j e = let w = any_found (λ x. eqb (far_at pairs x) j) (chain_at held.chains i) e in
      let b = and_parts _ _ (sym (h.holds i w.0 li) ∙ w.1) in
      (some_below-decides (λ k. live_at live k && joins (pair_at pairs k) i j) (length pairs)).1
      (w.0 / 2, held_within w.0 w.1, and_from _ _ b.0 (seen j w.0 (eqb (w.0 % 2) 0) refl b.1 w.2))

  back_at : (j k : ℕ) → live_at live k ≡ true → joins (pair_at pairs k) i j ≡ true
      → list_any (λ x. eqb (far_at pairs x) j) (chain_at held.chains i) ≡ true
  back_at j k alive here =
      let a : ℕ = (pair_at pairs k).0 in let b : ℕ = (pair_at pairs k).1 in
      elim (or_cases (eqb a i && eqb b j) (eqb a j && eqb b i) here) [
        | inl s ↦ (let t = and_parts (eqb a i) (eqb b j) s in any_here (λ x. eqb (far_at pairs x) j) (chain_at held.chains i) (2 * k)
            (h.holds i (2 * k) li ∙ item_even (live_at live) pairs k i ∙ and_from (live_at live k) (eqb a i) alive t.0)
            (ap (λ (n : ℕ). eqb n j) (far_even pairs k) ∙ t.1))
        | inr s ↦ (let t = and_parts (eqb a j) (eqb b i) s in any_here (λ x. eqb (far_at pairs x) j) (chain_at held.chains i) (2 * k + 1)
            (h.holds i (2 * k + 1) li ∙ item_odd (live_at live) pairs k i ∙ and_from (live_at live k) (eqb b i) alive t.1)
            (ap (λ (n : ℕ). eqb n j) (far_odd pairs k) ∙ t.0))
      ]

  back : (j : ℕ) → joined pairs live i j ≡ true → list_any (λ x. eqb (far_at pairs x) j) (chain_at held.chains i) ≡ true
  back j e = let w = (some_below-decides (λ k. live_at live k && joins (pair_at pairs k) i j) (length pairs)).0 e in
      let b = and_parts (live_at live w.0) (joins (pair_at pairs w.0) i j) w.2 in back_at j w.0 b.0 b.1

  pub leads-joined : (j : ℕ) → list_any (λ x. eqb (far_at pairs x) j) (chain_at held.chains i) ≡ joined pairs live i j
  leads-joined j = same_truth _ _ (there j) (back j)

-- ---- the pairs of a particle, for the sweep that mends colours
module _ {particles room : ℕ} {pairs : List (ℕ × ℕ)} (live : List Bool) {held : Linked} (h : Holds (live_at live) particles room pairs held)
    (len : length live ≡ length pairs) (p : ℕ) (lp : p < particles) (test : ℕ → Bool) where
  touched : ℕ → Bool
  touched k = (live_at live k && is_end (pair_at pairs k) p) && test k

  end_touches : (x : ℕ) → eqb (end_at pairs x) p ≡ true → is_end (pair_at pairs (x / 2)) p ≡ true
  end_touches x e = end_by_parity (eqb (x % 2) 0) refl e
    where
      end_by_parity : (b : Bool) → eqb (x % 2) 0 ≡ b → eqb (cond b (pair_at pairs (x / 2)).0 (pair_at pairs (x / 2)).1) p ≡ true
          → is_end (pair_at pairs (x / 2)) p ≡ true
      end_by_parity true q f = or_left (eqb (pair_at pairs (x / 2)).0 p) (eqb (pair_at pairs (x / 2)).1 p) f
      end_by_parity false q f = or_right (eqb (pair_at pairs (x / 2)).0 p) (eqb (pair_at pairs (x / 2)).1 p) f

  met : list_any (λ x. test (x / 2)) (chain_at held.chains p) ≡ true → some_below touched (length pairs) ≡ true
  unfolding touched
  met e =
      let w = any_found (λ x. test (x / 2)) (chain_at held.chains p) e in
      let b = and_parts (live_at live (w.0 / 2)) (eqb (end_at pairs w.0) p) (sym (h.holds p w.0 lp) ∙ w.1) in
      (some_below-decides touched (length pairs)).1 (
        w.0 / 2,
        held_within live h len p lp w.0 w.1,
        and_from _ _ (and_from _ _ b.0 (end_touches w.0 b.1)) w.2,
      )

  met_back : some_below touched (length pairs) ≡ true → list_any (λ x. test (x / 2)) (chain_at held.chains p) ≡ true
  unfolding touched
  met_back e =
      let w = (some_below-decides touched (length pairs)).0 e in
      let b = and_parts (live_at live w.0 && is_end (pair_at pairs w.0) p) (test w.0) w.2 in
      let d = and_parts (live_at live w.0) (is_end (pair_at pairs w.0) p) b.0 in
      at w.0 d.0 b.1 (or_cases (eqb (pair_at pairs w.0).0 p) (eqb (pair_at pairs w.0).1 p) d.1)
    where
      at : (k : ℕ) → live_at live k ≡ true → test k ≡ true → ((eqb (pair_at pairs k).0 p ≡ true) ⊎ (eqb (pair_at pairs k).1 p ≡ true))
          → list_any (λ x. test (x / 2)) (chain_at held.chains p) ≡ true
      at k a t (inl e) = any_here (λ x. test (x / 2)) (chain_at held.chains p) (2 * k)
          (h.holds p (2 * k) lp ∙ item_even (live_at live) pairs k p ∙ and_from (live_at live k) (eqb (pair_at pairs k).0 p) a e)
          (ap test (even_half k) ∙ t)
      at k a t (inr e) = any_here (λ x. test (x / 2)) (chain_at held.chains p) (2 * k + 1)
          (h.holds p (2 * k + 1) lp ∙ item_odd (live_at live) pairs k p ∙ and_from (live_at live k) (eqb (pair_at pairs k).1 p) a e)
          (ap test (odd_half k) ∙ t)

  -- the chain of a particle has a pair that passes exactly where a live pair that is_end the particle passes
  pub chain-tells : list_any (λ x. test (x / 2)) (chain_at held.chains p)
      ≡ some_below (λ k. (live_at live k && is_end (pair_at pairs k) p) && test k) (length pairs)
  unfolding touched
  chain-tells = same_truth _ _ met met_back

-- ---- a walk along a chain
pub record IsAlong (test : ℕ → Bool) (chain : List ℕ) (at : Option ℕ) (k : ℕ) : Type 0 where
  pub next : at ≡ slice_get chain k
  pub none : list_any test (take k chain) ≡ false

pub IsAlong-all : (test : ℕ → Bool) (chain : List ℕ) (at : Option ℕ) (k : ℕ) → IsAlong test chain at k → length chain ≤ k
    → list_any test chain ≡ false
IsAlong-all test chain at k h l = ap (list_any test) (sym (take_all k chain l)) ∙ h.none

-- leads to particle j
abbrev pub leads_to : List (ℕ × ℕ) → ℕ → ℕ → Bool
leads_to pairs j x = eqb (far_at pairs x) j

-- ---- rising numbers
pub rising_at : (xs : List ℕ) → IsStrictlyIncreasing xs → (i k : ℕ) → i < k → k < length xs → get_or xs i 0 < get_or xs k 0
rising_at xs h i zero l m = absurd (omega arith)
rising_at xs h i (suc k) l m =
    let next : get_or xs k 0 < get_or xs (suc k) 0 = subst (λ (n : ℕ). get_or xs k 0 < get_or xs n 0) (add-one k) (h k (omega arith)) in
    elim (cases_eq i k) [
      | inl e ↦ subst (λ (n : ℕ). get_or xs n 0 < get_or xs (suc k) 0) (sym e) next
      | inr ne ↦ omega (arith, next, rising_at xs h i k (omega arith) (omega arith))
    ]

-- the numbers before place i are taken out
pub record IsTaking (numbers : List ℕ) (particles room : ℕ) (pairs : List (ℕ × ℕ)) (old live : List Bool) (chains : Linked)
    (i : ℕ) : Type 0 where
  pub flags : live ≡ dropped (take i numbers) old
  pub held : Holds (live_at live) particles room pairs chains

-- a flag that is so already
pub set_same : (live : List Bool) (i : ℕ) (flag : Bool) → live_at live i ≡ flag → live ≡ set live i flag
set_same [] i flag e = refl
set_same (b ∷ bs) zero flag e = ap (λ (c : Bool). c ∷ bs) e
set_same (b ∷ bs) (suc i) flag e = ap (λ (cs : List Bool). b ∷ cs) (set_same bs i flag e)

-- the flags before place i are away
pub record AreGone (particles room : ℕ) (pairs : List (ℕ × ℕ)) (live : List Bool) (chains : Linked) (i : ℕ) : Type 0 where
  pub gone : (k : ℕ) → k < i → live_at live k ≡ false
  pub size : length live ≡ length pairs
  pub held : Holds (live_at live) particles room pairs chains

-- the flags before place i are those of others
pub record IsFollowing (particles room : ℕ) (pairs : List (ℕ × ℕ)) (live flags : List Bool) (chains : Linked) (i : ℕ) : Type 0 where
  pub same : (k : ℕ) → k < i → live_at live k ≡ live_at flags k
  pub size : length live ≡ length pairs
  pub held : Holds (live_at live) particles room pairs chains

-- setting flag i passes pair i, and else what was passed
pub set_in : (live : List Bool) (i : ℕ) → i < length live → live_at (set live i true) i ≡ true
set_in live i l = get_or-set_same live i true false l

pub set_others : (live : List Bool) (i : ℕ) (k : ℕ) → k ≢ i → live_at live k ≡ live_at (set live i true) k
set_others live i k ne = sym (get_or-set_other live i k true false ne)

-- lists that are the same in a piece have the same flags there
pub same_in_piece : (flags others : List Bool) (at end k : ℕ) → slice_range flags at end ≡ slice_range others at end → at ≤ k → k < end
    → live_at flags k ≡ live_at others k
same_in_piece flags others at end k same from to = sym (in_piece flags) ∙ ap (λ (fs : List Bool). live_at fs (k - at)) same ∙ in_piece others where
  in_piece : (fs : List Bool) → live_at (slice_range fs at end) (k - at) ≡ live_at fs k
  in_piece fs = get_or-take (end - at) (drop at fs) (k - at) false (omega (arith, from, to))
      ∙ get_or-drop at fs (k - at) false ∙ ap (λ (i : ℕ). live_at fs i) (omega (arith, from))
