-- Lists in which no item stands in a relation to a later one.
use Rattle.std.proofs.Common.{◌≡◌, refl, sym, ap, ◌∙◌, ℕ, zero, suc, ◌+◌, ◌<◌, ◌≤◌, Bool, true, false, not, ◌&&◌, ◌||◌, List, [], ◌∷◌, ◌++◌}
use Rattle.std.proofs.Common.{length, get_or, take, arith, inl, inr}
use Rattle.std.specs.List.{list_any, list_all, range_with_len}
use Rattle.std.proofs.lemmas.Bool.{and_parts, and_from, false≢true, cases_eq, or_parts}
use Rattle.std.proofs.lemmas.List.{take_more}
use Rattle.std.proofs.lemmas.List.Folds.{list_any-append, list_any_at}
use Rattle.pbd_world.specs.Valid.{none_twice}

-- ---- tests

-- ---- one item more

more_tests : (among again same rest : Bool) → not among ≡ true → again ≡ true → same ≡ false
    → (not (among || (same || false)) && again) ≡ true
more_tests true again same rest h k e = absurd (false≢true h)
more_tests false again true rest h k e = absurd (false≢true (sym e))
more_tests false again false rest h k e = k

pub twice_more : {A : Type 0} (same : A → A → Bool) (xs : List A) (y : A) → none_twice same xs ≡ true → list_any (λ x. same x y) xs ≡ false
    → none_twice same (xs ++ y ∷ []) ≡ true
twice_more same [] y h k = refl
twice_more same (x ∷ xs) y h k =
    let parts = and_parts (not (list_any (same x) xs)) (none_twice same xs) h in
    let none = or_parts (same x y) (list_any (λ x. same x y) xs) k in
    ap (λ b. not b && none_twice same (xs ++ y ∷ [])) (list_any-append (same x) xs (y ∷ []))
    ∙ more_tests (list_any (same x) xs) (none_twice same (xs ++ y ∷ [])) (same x y) true parts.0
    (twice_more same xs y parts.1 none.1) none.0

-- the item after the first i, where none of those stands in the relation to it
pub twice_next : {A : Type 0} (same : A → A → Bool) (xs : List A) (i : ℕ) (y : A) → i < length xs → y ≡ get_or xs i y
    → none_twice same (take i xs) ≡ true → list_any (λ x. same x y) (take i xs) ≡ false → none_twice same (take (i + 1) xs) ≡ true
twice_next same xs i y h e k none = rw (take_more xs i y h, ← e) (twice_more same (take i xs) y k none)

found_tests : (among again : Bool) → among ≡ true → (not among && again) ≡ false
found_tests true again h = refl
found_tests false again h = absurd (false≢true h)

again_tests : (among again : Bool) → again ≡ false → (not among && again) ≡ false
again_tests true again h = refl
again_tests false again h = h

-- where one of them does
pub twice_found : {A : Type 0} (same : A → A → Bool) (xs : List A) (i : ℕ) (y : A) → i < length xs → y ≡ get_or xs i y
    → list_any (λ x. same x y) (take i xs) ≡ true → none_twice same xs ≡ false
twice_found same [] i y h e k = absurd (omega (arith, h))
twice_found same (x ∷ xs) zero y h e k = absurd (false≢true k)
twice_found same (x ∷ xs) (suc i) y h e k =
    let at : i < length xs = omega (arith, h) in
    by_first (same x y) refl k (twice_found same xs i y at e)
  where
    by_first : (b : Bool) → same x y ≡ b → (b || list_any (λ x. same x y) (take i xs)) ≡ true
        → (list_any (λ x. same x y) (take i xs) ≡ true → none_twice same xs ≡ false)
        → (not (list_any (same x) xs) && none_twice same xs) ≡ false
    by_first true is t later = found_tests (list_any (same x) xs) (none_twice same xs)
        (list_any_at (same x) xs i y (omega (arith, h)) (ap (same x) (sym e) ∙ is))
    by_first false is t later = again_tests (list_any (same x) xs) (none_twice same xs) (later t)

-- ---- a test of each number of a range

pub range_all : (test : ℕ → Bool) (a n : ℕ) → ((k : ℕ) → a ≤ k → k < a + n → test k ≡ true) → list_all test (range_with_len a n) ≡ true
range_all test a zero h = refl
range_all test a (suc n) h = and_from (test a) (list_all test (range_with_len (a + 1) n)) (h a (omega arith) (omega arith))
    (range_all test (a + 1) n (λ k l u. h k (omega (arith, l)) (omega (arith, u))))

fails_later : (a b : Bool) → b ≡ false → (a && b) ≡ false
fails_later true b h = h
fails_later false b h = refl

pub range_fails : (test : ℕ → Bool) (a n k : ℕ) → a ≤ k → k < a + n → test k ≡ false → list_all test (range_with_len a n) ≡ false
range_fails test a zero k l u h = absurd (omega (arith, l, u))
range_fails test a (suc n) k l u h = elim (cases_eq a k) [
  | inl e ↦ ap (λ b. b && list_all test (range_with_len (a + 1) n)) (ap test e ∙ h)
  | inr d ↦ fails_later (test a) (list_all test (range_with_len (a + 1) n))
      (range_fails test (a + 1) n k (omega (arith, l, d)) (omega (arith, u)) h)
]

pub range_tells : (test : ℕ → Bool) (a n k : ℕ) → a ≤ k → k < a + n → list_all test (range_with_len a n) ≡ true → test k ≡ true
range_tells test a zero k l u h = absurd (omega (arith, l, u))
range_tells test a (suc n) k l u h =
    let parts = and_parts (test a) (list_all test (range_with_len (a + 1) n)) h in
    elim (cases_eq a k) [
      | inl e ↦ ap test (sym e) ∙ parts.0
      | inr d ↦ range_tells test (a + 1) n k (omega (arith, l, d)) (omega (arith, u)) parts.1
    ]
