-- Facts, items that stand apart, counts and lengths of lists that are concatenated.
use Rattle.std.proofs.Common.{◌≡◌, refl, ℕ, zero, suc, ◌+◌, ◌*◌, ◌<◌, ◌≤◌, inl, inr, Bool, false, List, length, arith}
use Rattle.std.specs.Prelude.{IsTrue, filter, nat_lt, if◌then◌else◌}
use Rattle.std.proofs.lemmas.Bool.{cases_eq}
use Rattle.std.proofs.lemmas.Bool.Decides.{nat_tests}
use Rattle.std.proofs.lemmas.List.{length-append}
use Rattle.pbd_world.specs.Valid.{none_twice}
unfoldable pub use Rattle.pbd_world.proofs.Every.{Apart}
pub use Rattle.pbd_world.proofs.Every.{Every, every_none, every_one, every_both, every_more, every_test, every_from_test, all_from_every}
pub use Rattle.pbd_world.proofs.Every.{apart_from, apart_both, apart_one, once_none, once_one, once_both, count_both, count_none}
use Rattle.pbd_mesh.specs.Numbered.{concatenated}

pub every_concatenated : {A : Type 0} (P : A → Type 0) (n : ℕ) (f : ℕ → List A) → ((i : ℕ) → i < n → Every P (f i))
    → Every P (concatenated n f)
unfolding concatenated
every_concatenated P zero f h = every_none P
every_concatenated P (suc n) f h = every_both P (concatenated n f) (f n) (every_concatenated P n f (λ i w. h i (omega arith)))
    (h n (omega arith))

pub once_concatenated : {A : Type 0} (same : A → A → Bool) (n : ℕ) (f : ℕ → List A) → ((i : ℕ) → i < n → IsTrue (none_twice same (f i)))
    → ((i j : ℕ) → i < j → j < n → Apart same (f i) (f j)) → IsTrue (none_twice same (concatenated n f))
unfolding concatenated Apart
once_concatenated same zero f h k = refl
once_concatenated same (suc n) f h k =
    once_both same (concatenated n f) (f n)
    (once_concatenated same n f (λ i w. h i (omega arith)) (λ i j v w. k i j v (omega arith)))
    (h n (omega arith))
    (every_concatenated (λ x. Every (λ y. same x y ≡ false) (f n)) n f (λ i w. k i n w (omega arith)))

-- ---- counts

-- K where p is below n
abbrev allow : ℕ → ℕ → ℕ → ℕ
allow K p n = if nat_lt p n then K else 0

allow_grows : (K p n : ℕ) → allow K p n ≤ allow K p (suc n)
allow_grows K p n = grind (arith, nat_tests)

allow_here : (K n : ℕ) → allow K n n + K ≤ allow K n (suc n)
allow_here K n = grind (arith, nat_tests)

allow_most : (K p n : ℕ) → allow K p n ≤ K
allow_most K p n = grind (arith, nat_tests)

-- at most K of each, and none but of two
count_allowed : {A : Type 0} (test : A → Bool) (n : ℕ) (f : ℕ → List A) (K p q : ℕ) → ((j : ℕ) → j < n → length (filter test (f j)) ≤ K)
    → ((j : ℕ) → j < n → (j ≡ p → ⊥) → (j ≡ q → ⊥) → length (filter test (f j)) ≡ 0)
    → length (filter test (concatenated n f)) ≤ allow K p n + allow K q n
unfolding concatenated
count_allowed test zero f K p q h k = omega arith
count_allowed test (suc n) f K p q h k =
    let so_far = count_allowed test n f K p q (λ j w. h j (omega arith)) (λ j w. k j (omega arith)) in
    let both = count_both test (concatenated n f) (f n) in
    let here = h n (omega arith) in
    elim (cases_eq n p) [
      | inl e ↦ rw (← e) (let fa : length (filter test (concatenated n f)) ≤ allow K n n + allow K q n = rw (← e) at so_far in
          omega (arith, fa, both, here, allow_here K n, allow_grows K q n))
      | inr ne ↦ elim (cases_eq n q) [
        | inl e ↦ rw (← e) (let fa : length (filter test (concatenated n f)) ≤ allow K p n + allow K n n = rw (← e) at so_far in
            omega (arith, fa, both, here, allow_here K n, allow_grows K p n))
        | inr nf ↦ omega (arith, so_far, both, k n (omega arith) ne nf, allow_grows K p n, allow_grows K q n)
      ]
    ]

pub count_concatenated : {A : Type 0} (test : A → Bool) (n : ℕ) (f : ℕ → List A) (K p q : ℕ)
    → ((j : ℕ) → j < n → length (filter test (f j)) ≤ K) → ((j : ℕ) → j < n → (j ≡ p → ⊥) → (j ≡ q → ⊥) → length (filter test (f j)) ≡ 0)
    → length (filter test (concatenated n f)) ≤ K + K
count_concatenated test n f K p q h k = omega (arith, count_allowed test n f K p q h k, allow_most K p n, allow_most K q n)

-- ---- lengths

length_next : {A : Type 0} (n : ℕ) (f : ℕ → List A) → length (concatenated (suc n) f) ≡ length (concatenated n f) + length (f n)
unfolding concatenated
length_next n f = length-append (concatenated n f) (f n)

pub length_concatenated : {A : Type 0} (n K : ℕ) (f : ℕ → List A) → ((i : ℕ) → i < n → length (f i) ≡ K) → length (concatenated n f) ≡ n * K
unfolding concatenated
length_concatenated zero K f h = omega arith
length_concatenated (suc n) K f h =
    omega (arith, length_next n f, length_concatenated n K f (λ i w. h i (omega arith)), h n (omega arith))

pub concatenated_most : {A : Type 0} (n K : ℕ) (f : ℕ → List A) → ((i : ℕ) → i < n → length (f i) ≤ K) → length (concatenated n f) ≤ n * K
unfolding concatenated
concatenated_most zero K f h = omega arith
concatenated_most (suc n) K f h =
    omega (arith, length_next n f, concatenated_most n K f (λ i w. h i (omega arith)), h n (omega arith))
