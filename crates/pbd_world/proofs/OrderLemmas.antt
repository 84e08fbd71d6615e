-- The order of a list of pairs holds each live number once.
use Rattle.std.proofs.Common.{◌≡◌, ◌≢◌, refl, sym, ap, ◌∙◌, ℕ, zero, suc, ◌+◌, ◌<◌, ◌≤◌, Bool, true, false, ◌&&◌, List, [], ◌∷◌, length}
use Rattle.std.proofs.Common.{arith, inl, inr, ◌⊎◌, zero-add}
use Rattle.std.specs.Prelude.{AllPairs, ◌==◌, cond, filter, count_by}
use Rattle.std.specs.List.{AllByRecursion, range_with_len, flat_map, sum_by}
use Rattle.std.proofs.lemmas.Bool.{and_parts, eqb-true, cases_eq, eq-eqb, ne_eqb}
use Rattle.std.proofs.lemmas.List.Sums.{sum_by-cons, sum_by-append}
use Rattle.pbd_world.specs.Colours.{live_at, colour, of_colour, order, IsEarlier}
use Rattle.pbd_world.proofs.GreedyLemmas.{colour-is_greedy}
use Rattle.pbd_world.proofs.KeepingOn.{all-append, all-range}
use Rattle.pbd_world.proofs.RisingLemmas.{Rising, rising_join, rising_filter, rising_pairs}
use Rattle.std.proofs.Math.Bool.{and-false, and-true}

-- ---- how often a number comes that alone may pass a test

abbrev alone : (ℕ → Bool) → ℕ → Type 0
alone test k = (x : ℕ) → x ≢ k → test x ≡ false

range_none : (test : ℕ → Bool) (k a n : ℕ) → alone test k → (k < a) ⊎ (a + n ≤ k) → count_by test (range_with_len a n) ≡ 0
range_none test k a zero h out = refl
range_none test k a (suc n) h out =
    let other : a ≢ k = λ (e : a ≡ k). elim out [ inl l ↦ absurd (omega (arith, l, e)) | inr l ↦ absurd (omega (arith, l, e)) ] in
    let rest : (k < a + 1) ⊎ (a + 1 + n ≤ k) = elim out [ inl l ↦ inl (omega (arith, l)) | inr l ↦ inr (omega (arith, l)) ] in
    sum_by-cons (λ x. cond (test x) 1 0) a (range_with_len (a + 1) n)
    ∙ ap (λ b. cond b 1 0 + count_by test (range_with_len (a + 1) n)) (h a other)
    ∙ ap (λ m. 0 + m) (range_none test k (a + 1) n h rest)

range_one : (test : ℕ → Bool) (k a n : ℕ) → alone test k → a ≤ k → k < a + n → count_by test (range_with_len a n) ≡ cond (test k) 1 0
range_one test k a zero h l u = absurd (omega (arith, l, u))
range_one test k a (suc n) h l u =
    let step : count_by test (range_with_len a (suc n)) ≡ cond (test a) 1 0 + count_by test (range_with_len (a + 1) n) =
    sum_by-cons (λ x. cond (test x) 1 0) a (range_with_len (a + 1) n) in
    elim (cases_eq a k) [
      | inl e ↦ (let rest : count_by test (range_with_len (a + 1) n) ≡ 0 = range_none test k (a + 1) n h (inl (omega (arith, e))) in
          let here : cond {A = ℕ} (test a) 1 0 ≡ cond {A = ℕ} (test k) 1 0 = ap (λ x. cond (test x) 1 0) e in
          omega (arith, step, rest, here))
      | inr d ↦ (let rest : count_by test (range_with_len (a + 1) n)
          ≡ cond (test k) 1 0 = range_one test k (a + 1) n h (omega (arith, l, d)) (omega (arith, u)) in
          let here : cond {A = ℕ} (test a) 1 0 ≡ 0 = ap (λ b. cond b 1 0) (h a d) in
          omega (arith, step, rest, here))
    ]

-- ---- what a filter leaves of it

kept_count : (b c : Bool) (x : ℕ) (test : ℕ → Bool) (xs : List ℕ) → test x ≡ c
    → count_by test (cond b (x ∷ xs) xs) ≡ cond (b && c) 1 0 + count_by test xs
kept_count true c x test xs e = sum_by-cons (λ y. cond (test y) 1 0) x xs ∙ ap (λ d. cond d 1 0 + count_by test xs) e
kept_count false c x test xs e = sym (zero-add (count_by test xs))

filter_count : (keep test : ℕ → Bool) (xs : List ℕ) → count_by test (filter keep xs) ≡ count_by (λ x. keep x && test x) xs
filter_count keep test [] = refl
filter_count keep test (x ∷ xs) =
    kept_count (keep x) (test x) x test (filter keep xs) refl
    ∙ ap (λ n. cond (keep x && test x) 1 0 + n) (filter_count keep test xs)
    ∙ sym (sum_by-cons (λ y. cond (keep y && test y) 1 0) x xs)

flat_count : (test : ℕ → Bool) (f : ℕ → List ℕ) (xs : List ℕ) → count_by test (flat_map f xs) ≡ sum_by (λ x. count_by test (f x)) xs
flat_count test f [] = refl
flat_count test f (x ∷ xs) =
    sum_by-append (λ y. cond (test y) 1 0) (f x) (flat_map f xs)
    ∙ ap (λ n. count_by test (f x) + n) (flat_count test f xs)
    ∙ sym (sum_by-cons (λ y. count_by test (f y)) x xs)

same_sums : (f g : ℕ → ℕ) (xs : List ℕ) → ((x : ℕ) → f x ≡ g x) → sum_by f xs ≡ sum_by g xs
same_sums f g [] h = refl
same_sums f g (x ∷ xs) h = sum_by-cons f x xs ∙ rw (h x, same_sums f g xs h) (sym (sum_by-cons g x xs))

-- ---- the order

none_of : (n : ℕ) (xs : List ℕ) → sum_by (λ x. 0) xs ≡ 0
none_of n [] = refl
none_of n (x ∷ xs) = sum_by-cons (λ y. 0) x xs ∙ ap (λ m. 0 + m) (none_of n xs)

module _ (pairs : List (ℕ × ℕ)) (live : List Bool) (k : ℕ) where
  abbrev keeps : ℕ → ℕ → Bool
  keeps c i = live_at live i && colour pairs live i == c

  only_k : (c : ℕ) → alone (λ i. keeps c i && i == k) k
  only_k c x d = ap (λ b. keeps c x && b) (ne_eqb x k d) ∙ and-false (keeps c x)

  in_colour : (c : ℕ) → k < length pairs → count_by (λ i. i == k) (of_colour live (colour pairs live) (length pairs) c)
      ≡ cond (keeps c k) 1 0
  in_colour c h =
      filter_count (keeps c) (λ i. i == k) (range_with_len 0 (length pairs))
      ∙ range_one (λ i. keeps c i && i == k) k 0 (length pairs) (only_k c) (omega arith) (omega (arith, h))
      ∙ ap (λ b. cond b 1 0) (ap (λ b. keeps c k && b) (eq-eqb k k refl) ∙ and-true (keeps c k))

  out_of_colour : (c : ℕ) → length pairs ≤ k → count_by (λ i. i == k) (of_colour live (colour pairs live) (length pairs) c) ≡ 0
  out_of_colour c h =
      filter_count (keeps c) (λ i. i == k) (range_with_len 0 (length pairs))
      ∙ range_none (λ i. keeps c i && i == k) k 0 (length pairs) (only_k c) (inr (omega (arith, h)))

  only_colour : alone (λ c. keeps c k) (colour pairs live k)
  only_colour c d = ap (λ b. live_at live k && b) (ne_eqb (colour pairs live k) c (λ e. d (sym e))) ∙ and-false (live_at live k)

  pub order_counts : k < length pairs → count_by (λ i. i == k) (order pairs live) ≡ cond (live_at live k) 1 0
  unfolding order
  order_counts h =
      flat_count (λ i. i == k) (of_colour live (colour pairs live) (length pairs)) (range_with_len 0 64)
      ∙ same_sums (λ c. count_by (λ i. i == k) (of_colour live (colour pairs live) (length pairs) c)) (λ c. cond (keeps c k) 1 0)
      (range_with_len 0 64) (λ c. in_colour c h)
      ∙ range_one (λ c. keeps c k) (colour pairs live k) 0 64 only_colour (omega arith)
      (omega (arith, (colour-is_greedy pairs live k).within))
      ∙ ap (λ b. cond b 1 0) (ap (λ b. live_at live k && b) (eq-eqb (colour pairs live k) (colour pairs live k) refl)
      ∙ and-true (live_at live k))

  pub order_ends : length pairs ≤ k → count_by (λ i. i == k) (order pairs live) ≡ 0
  unfolding order
  order_ends h =
      flat_count (λ i. i == k) (of_colour live (colour pairs live) (length pairs)) (range_with_len 0 64)
      ∙ same_sums (λ c. count_by (λ i. i == k) (of_colour live (colour pairs live) (length pairs) c)) (λ c. 0) (range_with_len 0 64)
      (λ c. out_of_colour c h)
      ∙ none_of 0 (range_with_len 0 64)

-- ---- ascending

range_rises : (a n : ℕ) → Rising {A = ℕ} (λ i j. i < j) (range_with_len a n)
range_rises a zero = tt
range_rises a (suc n) = (all-range (λ j. a < j) (a + 1) n (λ j l u. omega (arith, l)), range_rises (a + 1) n)

holds_kept : (test : ℕ → Bool) (b : Bool) (x : ℕ) (xs : List ℕ) → test x ≡ b → AllByRecursion {X = ℕ} (λ y. test y ≡ true) xs
    → AllByRecursion {X = ℕ} (λ y. test y ≡ true) (cond b (x ∷ xs) xs)
holds_kept test true x xs e h = (e, h)
holds_kept test false x xs e h = h

filter_holds : (test : ℕ → Bool) (xs : List ℕ) → AllByRecursion {X = ℕ} (λ y. test y ≡ true) (filter test xs)
filter_holds test [] = tt
filter_holds test (x ∷ xs) = holds_kept test (test x) x (filter test xs) refl (filter_holds test xs)

module _ (pairs : List (ℕ × ℕ)) (live : List Bool) where
  abbrev Has : ℕ → ℕ → Type 0
  Has c i = colour pairs live i ≡ c

  coloured_by : (c : ℕ) (xs : List ℕ) → AllByRecursion {X = ℕ} (λ i. (live_at live i && colour pairs live i == c) ≡ true) xs
      → AllByRecursion (Has c) xs
  coloured_by c [] h = tt
  coloured_by c (i ∷ xs) h = (
    eqb-true (colour pairs live i) c (and_parts (live_at live i) (colour pairs live i == c) h.0).1,
    coloured_by c xs h.1,
  )

  coloured : (c : ℕ) → AllByRecursion (Has c) (of_colour live (colour pairs live) (length pairs) c)
  coloured c = coloured_by c (of_colour live (colour pairs live) (length pairs) c)
      (filter_holds (λ i. live_at live i && colour pairs live i == c) (range_with_len 0 (length pairs)))

  one_by : (c i : ℕ) (xs : List ℕ) → Has c i → AllByRecursion (Has c) xs → AllByRecursion {X = ℕ} (λ j. i < j) xs
      → AllByRecursion (IsEarlier pairs live i) xs
  one_by c i [] e h k = tt
  one_by c i (j ∷ xs) e h k = (inr (e ∙ sym h.0, k.0), one_by c i xs e h.1 k.1)

  row_ascends : (c : ℕ) (xs : List ℕ) → AllByRecursion (Has c) xs → Rising {A = ℕ} (λ i j. i < j) xs → Rising (IsEarlier pairs live) xs
  row_ascends c [] h k = tt
  row_ascends c (i ∷ xs) h k = (one_by c i xs h.0 h.1 k.0, row_ascends c xs h.1 k.1)

  from_by : (c d : ℕ) (xs : List ℕ) → c ≤ d → AllByRecursion (Has d) xs → AllByRecursion {X = ℕ} (λ i. c ≤ colour pairs live i) xs
  from_by c d [] l h = tt
  from_by c d (i ∷ xs) l h = (omega (arith, l, h.0), from_by c d xs l h.1)

  rows_from : (c m : ℕ) → AllByRecursion {X = ℕ} (λ i. c ≤ colour pairs live i)
      (flat_map (of_colour live (colour pairs live) (length pairs)) (range_with_len c m))
  rows_from c zero = tt
  rows_from c (suc m) =
      all-append {A = ℕ} (λ i. c ≤ colour pairs live i) (of_colour live (colour pairs live) (length pairs) c)
      (flat_map (of_colour live (colour pairs live) (length pairs)) (range_with_len (c + 1) m))
      (from_by c c (of_colour live (colour pairs live) (length pairs) c) (omega arith) (coloured c))
      (above (flat_map (of_colour live (colour pairs live) (length pairs)) (range_with_len (c + 1) m)) (rows_from (c + 1) m))
    where
      above : (xs : List ℕ) → AllByRecursion {X = ℕ} (λ i. c + 1 ≤ colour pairs live i) xs
          → AllByRecursion {X = ℕ} (λ i. c ≤ colour pairs live i) xs
      above [] h = tt
      above (i ∷ xs) h = (omega (arith, h.0), above xs h.1)

  before_all : (c i : ℕ) (xs : List ℕ) → Has c i → AllByRecursion {X = ℕ} (λ j. c + 1 ≤ colour pairs live j) xs
      → AllByRecursion (IsEarlier pairs live i) xs
  before_all c i [] e h = tt
  before_all c i (j ∷ xs) e h = (inl (omega (arith, e, h.0)), before_all c i xs e h.1)

  row_before : (c : ℕ) (xs later : List ℕ) → AllByRecursion (Has c) xs → AllByRecursion {X = ℕ} (λ j. c + 1 ≤ colour pairs live j) later
      → AllByRecursion (λ i. AllByRecursion (IsEarlier pairs live i) later) xs
  row_before c [] later h k = tt
  row_before c (i ∷ xs) later h k = (before_all c i later h.0 k, row_before c xs later h.1 k)

  rows_ascend : (c m : ℕ) → Rising (IsEarlier pairs live)
      (flat_map (of_colour live (colour pairs live) (length pairs)) (range_with_len c m))
  rows_ascend c zero = tt
  rows_ascend c (suc m) =
      let row = of_colour live (colour pairs live) (length pairs) c in
      let later = flat_map (of_colour live (colour pairs live) (length pairs)) (range_with_len (c + 1) m) in
      rising_join (IsEarlier pairs live) row later
      (row_ascends c row (coloured c) (rising_filter {A = ℕ} (λ i j. i < j) (λ i. live_at live i && colour pairs live i == c)
      (range_with_len 0 (length pairs)) (range_rises 0 (length pairs))))
      (rows_ascend (c + 1) m)
      (row_before c row later (coloured c) (rows_from (c + 1) m))

  pub order_ascends : AllPairs (IsEarlier pairs live) (order pairs live)
  unfolding order
  order_ascends = rising_pairs (IsEarlier pairs live) _ (rows_ascend 0 64)
