-- The first item of which a test holds.
use Rattle.std.proofs.Common.{◌≡◌, refl, sym, ap, ◌∙◌, subst, ℕ, zero, suc, ◌+◌, ◌<◌, ◌≤◌, Bool, true, false, cond, List, [], ◌∷◌, length}
use Rattle.std.proofs.Common.{drop, get_or, arith, Option, Some, None}
use Rattle.std.proofs.lemmas.List.{at_drop_more, at_drop_all}
use Rattle.pbd_sound.specs.Soundness.{first_where}

-- ---- a search from the left

pub where_more : {A : Type 0} (test : ℕ → A → Bool) (xs : List A) (i : ℕ) (d : A) (b : Bool) → i < length xs → test i (get_or xs i d) ≡ b
    → first_where i test (drop i xs) ≡ cond b (Some i) (first_where (i + 1) test (drop (i + 1) xs))
where_more {A} test xs i d b lt e =
    at_drop_more (λ (ys : List A). first_where i test ys) xs i d lt
    ∙ ap (λ (t : Bool). cond t (Some i) (first_where (i + 1) test (drop (i + 1) xs))) e

pub where_all : {A : Type 0} (test : ℕ → A → Bool) (xs : List A) (i : ℕ) → length xs ≤ i → first_where i test (drop i xs) ≡ None
where_all {A} test xs i le = at_drop_all (λ (ys : List A). first_where i test ys) xs i le

-- ---- where there is none

none_by : (b : Bool) (n : ℕ) (rest : Option ℕ) → cond b (Some n) rest ≡ None → (b ≡ false) × (rest ≡ None)
none_by true n rest h = cc
none_by false n rest h = (refl, h)

pub none_head : {A : Type 0} (n : ℕ) (test : ℕ → A → Bool) (x : A) (xs : List A) → first_where n test (x ∷ xs) ≡ None
    → (test n x ≡ false) × (first_where (n + 1) test xs ≡ None)
none_head n test x xs h = none_by (test n x) n (first_where (n + 1) test xs) h

pub none_cons : {A : Type 0} (n : ℕ) (test : ℕ → A → Bool) (x : A) (xs : List A) → test n x ≡ false → first_where (n + 1) test xs ≡ None
    → first_where n test (x ∷ xs) ≡ None
none_cons n test x xs e h = ap (λ (b : Bool). cond b (Some n) (first_where (n + 1) test xs)) e ∙ h

pub none_at : {A : Type 0} (n : ℕ) (test : ℕ → A → Bool) (xs : List A) (i : ℕ) (d : A) → first_where n test xs ≡ None → i < length xs
    → test (n + i) (get_or xs i d) ≡ false
none_at n test [] i d h lt = absurd (omega (arith, lt))
none_at n test (x ∷ xs) zero d h lt = let e : n + 0 ≡ n = omega arith in ap (λ (k : ℕ). test k x) e ∙ (none_head n test x xs h).0
none_at n test (x ∷ xs) (suc i) d h lt =
    let e : n + suc i ≡ (n + 1) + i = omega arith in
    ap (λ (k : ℕ). test k (get_or xs i d)) e ∙ none_at (n + 1) test xs i d (none_head n test x xs h).1 (omega (arith, lt))

pub none_first : {A : Type 0} (test : ℕ → A → Bool) (xs : List A) (i : ℕ) (d : A) → first_where 0 test xs ≡ None → i < length xs
    → test i (get_or xs i d) ≡ false
none_first test xs i d h lt = let e : 0 + i ≡ i = omega arith in sym (ap (λ (k : ℕ). test k (get_or xs i d)) e) ∙ none_at 0 test xs i d h lt
