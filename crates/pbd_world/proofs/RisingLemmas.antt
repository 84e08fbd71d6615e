-- Lists in which each item stands in a relation to all later ones.
use Rattle.std.proofs.Common.{Bool, true, false, List, [], ◌∷◌, ◌++◌, arith}
use Rattle.std.specs.Prelude.{AllPairs, cond, filter}
use Rattle.std.specs.List.{AllByRecursion}
use Rattle.std.proofs.lemmas.List.Elements.{All-from_recursion}
use Rattle.std.proofs.lemmas.List.Kept.{AllPairs-cons}
use Rattle.pbd_world.proofs.KeepingOn.{all-append, all-filter}

abbrev pub Rising : {A : Type 0} → (A → A → Type 0) → List A → Type 0
Rising R [] = Unit {0}
Rising R (x ∷ xs) = AllByRecursion (R x) xs × Rising R xs

pub rising_join : {A : Type 0} (R : A → A → Type 0) (xs ys : List A) → Rising R xs → Rising R ys
    → AllByRecursion (λ x. AllByRecursion (R x) ys) xs → Rising R (xs ++ ys)
rising_join R [] ys h k b = k
rising_join R (x ∷ xs) ys h k b = (all-append (R x) xs ys h.0 b.0, rising_join R xs ys h.1 k b.1)

rising_kept : {A : Type 0} (R : A → A → Type 0) (b : Bool) (x : A) (xs : List A) → AllByRecursion (R x) xs → Rising R xs
    → Rising R (cond b (x ∷ xs) xs)
rising_kept R true x xs h k = (h, k)
rising_kept R false x xs h k = k

pub rising_filter : {A : Type 0} (R : A → A → Type 0) (test : A → Bool) (xs : List A) → Rising R xs → Rising R (filter test xs)
rising_filter R test [] h = tt
rising_filter R test (x ∷ xs) h = rising_kept R (test x) x (filter test xs) (all-filter (R x) test xs h.0) (rising_filter R test xs h.1)

pub rising_pairs : {A : Type 0} (R : A → A → Type 0) (xs : List A) → Rising R xs → AllPairs R xs
rising_pairs R [] h = λ i j d l u. absurd (omega (arith, u))
rising_pairs R (x ∷ xs) h = AllPairs-cons R x xs (All-from_recursion (R x) xs h.0) (rising_pairs R xs h.1)
