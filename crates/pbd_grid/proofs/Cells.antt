-- A grid of cells: what its proof needs, over plain lists of numbers.
use Rattle.std.proofs.Common.{◌≡◌, ◌≢◌, ℕ, zero, suc, ◌+◌, ◌*◌, ◌/◌, ◌<◌, ◌≤◌, ◌&&◌, Bool, true, false, cond, eqb, ltb, leb, List, [], ◌∷◌}
use Rattle.std.proofs.Common.{◌++◌, length, get_or, refl, sym, ap, ◌∙◌, subst, arith, inl, inr, add-one}
use Rattle.std.proofs.lemmas.Bool.{cases_eq, cases_order, eq-eqb, ne_eqb, le-leb, lt-ltb}
use Rattle.std.proofs.lemmas.List.Sorted.{sum_by-IsPermutation}
use Rattle.std.proofs.lemmas.List.Sums.{sum_by-cons}
use Rattle.std.proofs.lemmas.Nat.{div_below}
use Rattle.std.proofs.lemmas.Bool.Decides.{nat_tests}
use Rattle.std.specs.List.{range_with_len, flat_map, filter, sum_by}
use Rattle.std.specs.List.Sorted.{IsPermutation}
use Rattle.pbd_grid.specs.Blocks.{count}
use Rattle.pbd_grid.proofs.Around.{none_if}

-- ---- cells
-- two numbers less than t apart are in cells at most one apart
pub cells_near : (t x y : ℕ) → 0 < t → x < y + t → x / t ≤ y / t + 1
cells_near t x y lt l =
    let below : x < (y / t + 2) * t = omega arith in
    omega (arith, div_below x t (y / t + 2) lt below)

-- ---- how often a number stands in a list
pub at_most_one : (b : Bool) → cond b 1 0 ≤ 1
at_most_one true = omega arith
at_most_one false = omega arith

pub count-append : (q : ℕ) (xs ys : List ℕ) → count q (xs ++ ys) ≡ count q xs + count q ys
count-append q [] ys = omega arith
count-append q (x ∷ xs) ys = omega (arith, count-append q xs ys)

pub count-filter : (p : ℕ → Bool) (q : ℕ) (xs : List ℕ) → count q (filter p xs) ≡ cond (p q) (count q xs) 0
count-filter p q [] = none_if (p q)
count-filter p q (x ∷ xs) = elim (cases_eq x q) [
  | inl e ↦ counted_here e (p q) refl (count-filter p q xs)
  | inr ne ↦ other ne (p x) (p q) (count-filter p q xs)
]
  where
    counted_here : x ≡ q → (b : Bool) → p q ≡ b → count q (filter p xs) ≡ cond (p q) (count q xs) 0
        → count q (cond (p x) (x ∷ filter p xs) (filter p xs)) ≡ cond (p q) (count q (x ∷ xs)) 0
    counted_here e true k rest = let here : p x ≡ true = ap p e ∙ k in let r : count q (filter p xs) ≡ count q xs = rw k at rest in
        rw (here, k, eq-eqb x q e) (omega (arith, r))
    counted_here e false k rest = let here : p x ≡ false = ap p e ∙ k in let r : count q (filter p xs) ≡ 0 = rw k at rest in rw (here, k) r

    other : x ≢ q → (b c : Bool) → count q (filter p xs) ≡ cond c (count q xs) 0
        → count q (cond b (x ∷ filter p xs) (filter p xs)) ≡ cond c (cond (eqb x q) 1 0 + count q xs) 0
    other ne true true rest = rw ne_eqb (omega (arith, rest))
    other ne true false rest = rw ne_eqb (omega (arith, rest))
    other ne false true rest = rw ne_eqb (omega (arith, rest))
    other ne false false rest = rest

count_sum : (q : ℕ) (xs : List ℕ) → count q xs ≡ sum_by (λ x. cond (eqb x q) 1 0) xs
count_sum q [] = refl
count_sum q (x ∷ xs) = ap (λ (n : ℕ). cond (eqb x q) 1 0 + n) (count_sum q xs) ∙ sym (sum_by-cons (λ x. cond (eqb x q) 1 0) x xs)

-- a sort keeps how often
pub count-permutation : (q : ℕ) (xs ys : List ℕ) → IsPermutation xs ys → count q ys ≡ count q xs
count-permutation q xs ys h = count_sum q ys ∙ sum_by-IsPermutation (λ x. cond (eqb x q) 1 0) xs ys h ∙ sym (count_sum q xs)

pub count-range : (q a n : ℕ) → count q (range_with_len a n) ≡ cond (leb a q && ltb q (a + n)) 1 0
count-range q a zero = grind (arith, nat_tests)
count-range q a (suc n) = count_more (count-range q (a + 1) n)
  where
    count_more : count q (range_with_len (a + 1) n) ≡ cond (leb (a + 1) q && ltb q (a + 1 + n)) 1 0
        → cond (eqb a q) 1 0 + count q (range_with_len (a + 1) n) ≡ cond (leb a q && ltb q (a + suc n)) 1 0
    count_more r = rw r (grind (arith, nat_tests))

-- ---- rising lists
-- the numbers rise, from low on
abbrev pub IsRising : ℕ → List ℕ → Type 0
IsRising low [] = Unit {0}
IsRising low (x ∷ xs) = (low ≤ x) × IsRising (suc x) xs

pub count_below : (low q : ℕ) (xs : List ℕ) → IsRising low xs → q < low → count q xs ≡ 0
count_below low q [] h l = refl
count_below low q (x ∷ xs) h l = let ne : x ≢ q = λ e. absurd (omega (arith, e, h.0)) in
    rw (ne_eqb x q ne) (omega (arith, count_below (suc x) q xs h.1 (omega (arith, h.0))))

-- rising lists in which each number stands equally often are equal
pub same_rising : (low : ℕ) (xs ys : List ℕ) → IsRising low xs → IsRising low ys → ((q : ℕ) → count q xs ≡ count q ys) → xs ≡ ys
same_rising low [] [] h k same = refl
same_rising low [] (y ∷ ys) h k same = absurd (let e = same y in let e' = rw (eq-eqb y y refl) at e in omega (arith, e'))
same_rising low (x ∷ xs) [] h k same = absurd (let e = same x in let e' = rw (eq-eqb x x refl) at e in omega (arith, e'))
same_rising low (x ∷ xs) (y ∷ ys) h k same = elim (cases_order x y) [
  | inl e ↦ (let tails : (q : ℕ) → count q xs ≡ count q ys = λ q. let s = same q in let s' = rw e at s in omega (arith, s') in
      let k' : IsRising (suc x) ys = subst (λ (n : ℕ). IsRising (suc n) ys) (sym e) k.1 in
      ap (λ (n : ℕ). n ∷ xs) e ∙ ap (λ (zs : List ℕ). y ∷ zs) (same_rising (suc x) xs ys h.1 k' tails))
  | inr o ↦ absurd (elim o [
    | inl l ↦ (let e = same x in let e' = rw (eq-eqb x x refl, count_below y x (y ∷ ys) (omega arith, k.1) l) at e in omega (arith, e'))
    | inr l ↦ (let e = same y in let e' = rw (eq-eqb y y refl, count_below x y (x ∷ xs) (omega arith, h.1) l) at e in omega (arith, e'))
  ])
]

pub rising_range : (p : ℕ → Bool) (a n : ℕ) → IsRising a (filter p (range_with_len a n))
rising_range p a zero = tt
rising_range p a (suc n) = rising_if (p a) (rising_range p (a + 1) n)
  where
    lower : (xs : List ℕ) → IsRising (a + 1) xs → IsRising a xs
    lower [] h = tt
    lower (x ∷ xs) h = (omega (arith, h.0), h.1)

    rising_if : (b : Bool) → IsRising (a + 1) (filter p (range_with_len (a + 1) n))
        → IsRising a (cond b (a ∷ filter p (range_with_len (a + 1) n)) (filter p (range_with_len (a + 1) n)))
    rising_if true h = (omega arith, subst (λ (m : ℕ). IsRising m (filter p (range_with_len (a + 1) n))) (add-one a) h)
    rising_if false h = lower _ h

-- ---- look-ups
module _ {C : Type 0} (same : C → C → Bool) (cell : ℕ → C) (chain : C → List ℕ) (keep : ℕ → Bool) where
  -- what the look-ups of these cells find
  abbrev pub found : List C → List ℕ
  found cells = flat_map (λ c. filter (λ j. same c (cell j) && keep j) (chain c)) cells

  -- how many of the cells are that of q
  abbrev pub tally : ℕ → List C → ℕ
  tally q [] = 0
  tally q (c ∷ cells) = cond (same c (cell q)) 1 0 + tally q cells

  -- where q stands once in the chain of its cell, it is found once for each time that its cell is looked up
  pub count-found : (q : ℕ) → (keep q ≡ true → (c : C) → same c (cell q) ≡ true → count q (chain c) ≡ 1) → (cells : List C)
      → count q (found cells) ≡ cond (keep q) (tally q cells) 0
  count-found q once [] = none_if (keep q)
  count-found q once (c ∷ cells) = count-append q (filter (λ j. same c (cell j) && keep j) (chain c)) (found cells)
      ∙ ap (λ (n : ℕ). n + count q (found cells)) (count-filter (λ j. same c (cell j) && keep j) q (chain c))
      ∙ found_more (same c (cell q)) (keep q) (λ e f. once e c f) (count-found q once cells)
    where
      found_more : (s k : Bool) → (k ≡ true → s ≡ true → count q (chain c) ≡ 1) → count q (found cells) ≡ cond k (tally q cells) 0
          → cond (s && k) (count q (chain c)) 0 + count q (found cells) ≡ cond k (cond s 1 0 + tally q cells) 0
      found_more true true one rest = omega (arith, one refl refl, rest)
      found_more true false one rest = omega (arith, rest)
      found_more false true one rest = omega (arith, rest)
      found_more false false one rest = omega (arith, rest)

count_at : (xs : List ℕ) (k : ℕ) → k < length xs → 1 ≤ count (get_or xs k 0) xs
count_at [] k l = absurd (omega arith)
count_at (x ∷ xs) zero l = rw (eq-eqb x x refl) (omega arith)
count_at (x ∷ xs) (suc k) l = omega (arith, count_at xs k (omega arith))

-- a sorted list in which no number stands twice rises
pub rising_sorted : (low : ℕ) (xs : List ℕ) → ((i j : ℕ) → i ≤ j → j < length xs → get_or xs i 0 ≤ get_or xs j 0)
    → ((k : ℕ) → k < length xs → low ≤ get_or xs k 0) → ((q : ℕ) → count q xs ≤ 1) → IsRising low xs
rising_sorted low [] sorted above once = tt
rising_sorted low (x ∷ xs) sorted above once = (
  above 0 (omega arith),
  rising_sorted (suc x) xs (λ i j l m. sorted (suc i) (suc j) (omega arith) (omega arith))
      (λ k l. let le : x ≤ get_or xs k 0 = sorted 0 (suc k) (omega arith) (omega arith) in
      let ne : get_or xs k 0 ≢ x = λ e. (let one : 1 ≤ count x xs = subst (λ (n : ℕ). 1 ≤ count n xs) e (count_at xs k l) in
      let two = once x in let two' = rw (eq-eqb x x refl) at two in absurd (omega (arith, one, two'))) in
      omega (arith, le, ne))
      (λ q. omega (arith, once q)),
)

-- the look-ups of the cells round i, sorted, are the numbers that are kept, in order
module _ {C : Type 0} (same : C → C → Bool) (cell : ℕ → C) (chain : C → List ℕ) (keep : ℕ → Bool) (around : List C) (a n : ℕ)
    (once : (q : ℕ) → keep q ≡ true → (c : C) → same c (cell q) ≡ true → count q (chain c) ≡ 1)
    (adjacent : (q : ℕ) → keep q ≡ true → tally same cell chain keep q around ≡ 1)
    (in_range : (q : ℕ) → keep q ≡ true → (a ≤ q) × (q < a + n)) where
  pub count-kept : (q : ℕ) → count q (found same cell chain keep around) ≡ cond (keep q) 1 0
  count-kept q = count-found same cell chain keep q (once q) around ∙ found_where_kept (keep q) refl
    where
      found_where_kept : (b : Bool) → keep q ≡ b → cond b (tally same cell chain keep q around) 0 ≡ cond b 1 0
      found_where_kept true e = adjacent q e
      found_where_kept false e = refl

  count-row : (q : ℕ) → count q (filter keep (range_with_len a n)) ≡ cond (keep q) 1 0
  count-row q = count-filter keep q (range_with_len a n) ∙ once_where_kept (keep q) refl
    where
      once_where_kept : (b : Bool) → keep q ≡ b → cond b (count q (range_with_len a n)) 0 ≡ cond b 1 0
      once_where_kept true e = count-range q a n ∙ rw (le-leb a q (in_range q e).0, lt-ltb q (a + n) (in_range q e).1) refl
      once_where_kept false e = refl

  pub row_is : (ys : List ℕ) → IsPermutation (found same cell chain keep around) ys
      → ((i j : ℕ) → i ≤ j → j < length ys → get_or ys i 0 ≤ get_or ys j 0) → ys ≡ filter keep (range_with_len a n)
  row_is ys moved sorted =
      let counts : (q : ℕ) → count q ys ≡ cond (keep q) 1 0 = λ q. count-permutation q _ ys moved ∙ count-kept q in
      same_rising a ys (filter keep (range_with_len a n))
      (rising_sorted a ys sorted (λ k l. above (get_or ys k 0) (keep (get_or ys k 0)) refl
      (rw (counts (get_or ys k 0)) at (count_at ys k l))) (λ q. rw (counts q) (at_most_one (keep q))))
      (rising_range keep a n) (λ q. counts q ∙ sym (count-row q))
    where
      above : (q : ℕ) (b : Bool) → keep q ≡ b → 1 ≤ cond (keep q) 1 0 → a ≤ q
      above q true e h = (in_range q e).0
      above q false e h = absurd (let h' = rw e at h in omega (arith, h'))
