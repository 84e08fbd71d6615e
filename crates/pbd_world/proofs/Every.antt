-- A fact of each item of a list, items that stand apart, and counts, of two lists one after the other.
use Rattle.std.proofs.Common.{◌≡◌, refl, ◌+◌, Bool, true, false, ◌||◌, List, [], ◌∷◌, ◌++◌, length, All}
use Rattle.std.specs.Prelude.{IsTrue, filter}
use Rattle.std.specs.List.{list_all, list_any}
use Rattle.std.proofs.lemmas.Bool.{and_parts, not-true}
use Rattle.std.proofs.lemmas.List.{length-append}
use Rattle.std.proofs.lemmas.List.Folds.{list_any-append}
use Rattle.std.proofs.lemmas.List.Elements.{filter-append, All-nil, All-cons, All-head, All-tail}
use Rattle.pbd_world.specs.Valid.{none_twice}

-- ---- each item

pub Every : {A : Type 0} → (A → Type 0) → List A → Type 0
Every P [] = Unit {0}
Every P (x ∷ xs) = P x × Every P xs

pub every_none : {A : Type 0} (P : A → Type 0) → Every P []
unfolding Every
every_none P = tt

pub every_one : {A : Type 0} (P : A → Type 0) (x : A) → P x → Every P (x ∷ [])
unfolding Every
every_one P x h = (h, tt)

pub every_both : {A : Type 0} (P : A → Type 0) (xs ys : List A) → Every P xs → Every P ys → Every P (xs ++ ys)
unfolding Every
every_both P [] ys h k = k
every_both P (x ∷ xs) ys h k = (h.0, every_both P xs ys h.1 k)

pub every_more : {A : Type 0} (P Q : A → Type 0) (xs : List A) → ((x : A) → P x → Q x) → Every P xs → Every Q xs
unfolding Every
every_more P Q [] f h = tt
every_more P Q (x ∷ xs) f h = (f x h.0, every_more P Q xs f h.1)

-- between `All` and the same by recursion
pub every_from_all : {A : Type 0} (P : A → Type 0) (xs : List A) → All P xs → Every P xs
unfolding Every
every_from_all P [] h = tt
every_from_all P (x ∷ xs) h = (All-head P x xs h, every_from_all P xs (All-tail P x xs h))

pub all_from_every : {A : Type 0} (P : A → Type 0) (xs : List A) → Every P xs → All P xs
unfolding Every
all_from_every P [] h = All-nil P
all_from_every P (x ∷ xs) h = All-cons P x xs h.0 (all_from_every P xs h.1)

pub every_test : {A : Type 0} (test : A → Bool) (xs : List A) → Every (λ x. IsTrue (test x)) xs → IsTrue (list_all test xs)
unfolding Every
every_test test [] h = refl
every_test test (x ∷ xs) h = rw (h.0, every_test test xs h.1) refl

-- what a test says of each item
pub every_from_test : {A : Type 0} (test : A → Bool) (xs : List A) → IsTrue (list_all test xs) → Every (λ x. IsTrue (test x)) xs
unfolding Every
every_from_test test [] h = tt
every_from_test test (x ∷ xs) h = let parts = and_parts (test x) (list_all test xs) h in (parts.0, every_from_test test xs parts.1)

pub every_not : {A : Type 0} (test : A → Bool) (xs : List A) → list_any test xs ≡ false → Every (λ x. test x ≡ false) xs
unfolding Every
every_not test [] h = tt
every_not test (x ∷ xs) h = let parts = neither (test x) (list_any test xs) h in (parts.0, every_not test xs parts.1)
  where
    neither : (a b : Bool) → (a || b) ≡ false → (a ≡ false) × (b ≡ false)
    neither true b h = cc
    neither false b h = (refl, h)

-- ---- none twice

none_among : {A : Type 0} (test : A → Bool) (xs : List A) → Every (λ x. test x ≡ false) xs → list_any test xs ≡ false
unfolding Every
none_among test [] h = refl
none_among test (x ∷ xs) h = rw (h.0, none_among test xs h.1) refl

-- no item of one list is the same as one of another
unfoldable pub Apart : {A : Type 0} → (A → A → Bool) → List A → List A → Type 0
Apart same xs ys = Every (λ x. Every (λ y. same x y ≡ false) ys) xs

pub apart_from : {A : Type 0} (same : A → A → Bool) (P Q : A → Type 0) (xs ys : List A) → ((x y : A) → P x → Q y → same x y ≡ false)
    → Every P xs → Every Q ys → Apart same xs ys
unfolding Apart
apart_from same P Q xs ys h hx hy = every_more P (λ x. Every (λ y. same x y ≡ false) ys) xs
    (λ x p. every_more Q (λ y. same x y ≡ false) ys (λ y q. h x y p q) hy) hx

pub apart_both : {A : Type 0} (same : A → A → Bool) (xs ys zs : List A) → Apart same xs zs → Apart same ys zs → Apart same (xs ++ ys) zs
unfolding Apart
apart_both same xs ys zs h k = every_both (λ x. Every (λ y. same x y ≡ false) zs) xs ys h k

-- an item apart from each of a list
pub apart_one : {A : Type 0} (same : A → A → Bool) (xs : List A) (y : A) → list_any (λ x. same x y) xs ≡ false → Apart same xs (y ∷ [])
unfolding Apart
apart_one same xs y h = every_more (λ x. same x y ≡ false) (λ x. Every (λ z. same x z ≡ false) (y ∷ [])) xs
    (λ x e. every_one (λ z. same x z ≡ false) y e) (every_not (λ x. same x y) xs h)

pub once_none : {A : Type 0} (same : A → A → Bool) → IsTrue (none_twice same [])
once_none same = refl

pub once_one : {A : Type 0} (same : A → A → Bool) (x : A) → IsTrue (none_twice same (x ∷ []))
once_one same x = refl

pub once_both : {A : Type 0} (same : A → A → Bool) (xs ys : List A) → IsTrue (none_twice same xs) → IsTrue (none_twice same ys)
    → Apart same xs ys → IsTrue (none_twice same (xs ++ ys))
unfolding Apart Every
once_both same [] ys h k apart = k
once_both same (x ∷ xs) ys h k apart =
    let parts = and_parts _ (none_twice same xs) h in
    let here : list_any (same x) xs ≡ false = not-true (list_any (same x) xs) parts.0 in
    let there : list_any (same x) ys ≡ false = none_among (same x) ys apart.0 in
    let rest : none_twice same (xs ++ ys) ≡ true = once_both same xs ys parts.1 k apart.1 in
    rw (list_any-append (same x) xs ys, here, there, rest) refl

-- ---- counts

pub count_both : {A : Type 0} (test : A → Bool) (xs ys : List A)
    → length (filter test (xs ++ ys)) ≡ length (filter test xs) + length (filter test ys)
count_both test xs ys = rw (filter-append test xs ys) (length-append (filter test xs) (filter test ys))

pub count_none : {A : Type 0} (test : A → Bool) (xs : List A) → Every (λ x. test x ≡ false) xs → length (filter test xs) ≡ 0
unfolding Every
count_none test [] h = refl
count_none test (x ∷ xs) h = rw h.0 (count_none test xs h.1)
