-- What stands at a place of some bytes.
use Rattle.std.proofs.Common.{◌≡◌, refl, sym, ap, ◌∙◌, subst, ℕ, zero, suc, ◌+◌, ◌*◌, ◌<◌, List, [], ◌∷◌, ◌++◌, length, drop, get_or}
use Rattle.std.proofs.Common.{append_assoc, append-nil, arith}
use Rattle.std.specs.List.{flat_map}
use Rattle.std.proofs.Math.Nat.{suc-mul}
use Rattle.std.proofs.lemmas.List.{drop_at, drop_all, drop-drop, length-append}

-- a text stands at a place
abbrev pub Stands : List ℕ → ℕ → List ℕ → Type 0
Stands bytes at text = drop at bytes ≡ text ++ drop (at + length text) bytes

pub both_stand : (bytes : List ℕ) (at : ℕ) (a b : List ℕ) (n : ℕ) → length a ≡ n → Stands bytes at a → Stands bytes (at + n) b
    → Stands bytes at (a ++ b)
both_stand bytes at a b n e h k =
    let ends : at + n + length b ≡ at + length (a ++ b) = omega (arith, e, length-append a b) in
    h ∙ ap (λ (t : List ℕ). a ++ t) (ap (λ (m : ℕ). drop (at + m) bytes) e ∙ k ∙ ap (λ (m : ℕ). b ++ drop m bytes) ends)
    ∙ sym (append_assoc a b (drop (at + length (a ++ b)) bytes))

behind : (bytes : List ℕ) (at : ℕ) (a b : List ℕ) → Stands bytes at (a ++ b)
    → drop (at + length a) bytes ≡ b ++ drop (at + length (a ++ b)) bytes
behind bytes at a b h =
    let rest = drop (at + length (a ++ b)) bytes in
    sym (drop-drop (length a) at bytes) ∙ ap (λ (t : List ℕ). drop (length a) t) (h ∙ append_assoc a b rest)
    ∙ drop_at a (b ++ rest) (length a) refl

pub first_stands : (bytes : List ℕ) (at : ℕ) (a b : List ℕ) → Stands bytes at (a ++ b) → Stands bytes at a
first_stands bytes at a b h = h ∙ append_assoc a b _ ∙ ap (λ (t : List ℕ). a ++ t) (sym (behind bytes at a b h))

pub second_stands : (bytes : List ℕ) (at : ℕ) (a b : List ℕ) (n : ℕ) → length a ≡ n → Stands bytes at (a ++ b) → Stands bytes (at + n) b
second_stands bytes at a b n e h =
    let ends : at + length (a ++ b) ≡ at + n + length b = omega (arith, e, length-append a b) in
    ap (λ (m : ℕ). drop (at + m) bytes) (sym e) ∙ behind bytes at a b h ∙ ap (λ (m : ℕ). b ++ drop m bytes) ends

-- the same text at the same place, in other words
pub stands_as : (bytes : List ℕ) (s t : ℕ) (text told : List ℕ) → s ≡ t → text ≡ told → Stands bytes s text → Stands bytes t told
stands_as bytes s t text told e f h = subst (λ (k : ℕ). Stands bytes k told) e (subst (λ (x : List ℕ). Stands bytes s x) f h)

-- ---- from the front

pub behind_front : (bytes a b : List ℕ) (n : ℕ) → length a ≡ n → Stands bytes 0 (a ++ b) → Stands bytes n b
behind_front bytes a b n e h =
    let from : 0 + n ≡ n = omega arith in
    stands_as bytes (0 + n) n b b from refl (second_stands bytes 0 a b n e h)

pub both_front : (bytes a b : List ℕ) (n : ℕ) → length a ≡ n → Stands bytes 0 a → Stands bytes n b → Stands bytes 0 (a ++ b)
both_front bytes a b n e h k =
    let from : n ≡ 0 + n = omega arith in
    both_stand bytes 0 a b n e h (stands_as bytes n (0 + n) b b from refl k)

pub whole_stands : (bytes : List ℕ) → Stands bytes 0 bytes
whole_stands bytes = sym (ap (λ (t : List ℕ). bytes ++ t) (drop_all (0 + length bytes) bytes (omega arith)) ∙ append-nil bytes)

pub stands_whole : (bytes text : List ℕ) → length text ≡ length bytes → Stands bytes 0 text → text ≡ bytes
stands_whole bytes text e h =
    sym (h ∙ ap (λ (t : List ℕ). text ++ t) (drop_all (0 + length text) bytes (omega (arith, e))) ∙ append-nil text)

-- ---- items of one size

-- each item stands where it begins
pub each_stands : {A : Type 0} (bytes : List ℕ) (f : A → List ℕ) (size at : ℕ) (xs : List A) (i : ℕ) (d : A)
    → ((x : A) → length (f x) ≡ size)
    → i < length xs → Stands bytes at (flat_map f xs) → Stands bytes (at + i * size) (f (get_or xs i d))
each_stands bytes f size at [] i d long lt h = absurd (omega (arith, lt))
each_stands bytes f size at (x ∷ xs) zero d long lt h =
    let e : at ≡ at + 0 * size = omega arith in
    stands_as bytes at (at + 0 * size) (f x) (f x) e refl (first_stands bytes at (f x) (flat_map f xs) h)
each_stands bytes f size at (x ∷ xs) (suc i) d long lt h =
    let e : at + size + i * size ≡ at + suc i * size = omega (arith, suc-mul i size) in
    let rest = second_stands bytes at (f x) (flat_map f xs) size (long x) h in
    stands_as bytes (at + size + i * size) (at + suc i * size) (f (get_or xs i d)) (f (get_or xs i d)) e refl
    (each_stands bytes f size (at + size) xs i d long (omega (arith, lt)) rest)

-- items that stand where they begin
pub all_stand : {A : Type 0} (bytes : List ℕ) (f : A → List ℕ) (size at : ℕ) (xs : List A) (d : A) → ((x : A) → length (f x) ≡ size)
    → ((i : ℕ) → i < length xs → Stands bytes (at + i * size) (f (get_or xs i d))) → Stands bytes at (flat_map f xs)
all_stand bytes f size at [] d long h = let e : at ≡ at + 0 = omega arith in ap (λ (k : ℕ). drop k bytes) e
all_stand bytes f size at (x ∷ xs) d long h =
    let e : at + 0 * size ≡ at = omega arith in
    both_stand bytes at (f x) (flat_map f xs) size (long x) (stands_as bytes (at + 0 * size) at (f x) (f x) e refl (h 0 (omega arith)))
    (all_stand bytes f size (at + size) xs d long (λ i lt.
    let next : at + suc i * size ≡ at + size + i * size = omega (arith, suc-mul i size) in
    stands_as bytes (at + suc i * size) (at + size + i * size) (f (get_or xs i d)) (f (get_or xs i d)) next refl
    (h (suc i) (omega (arith, lt)))))

-- where each item is one byte
pub byte_stands : {A : Type 0} (bytes : List ℕ) (f : A → List ℕ) (at : ℕ) (xs : List A) (i : ℕ) (d : A)
    → ((x : A) → length (f x) ≡ 1)
    → i < length xs → Stands bytes at (flat_map f xs) → Stands bytes (at + i) (f (get_or xs i d))
byte_stands bytes f at xs i d long lt h =
    let e : at + i * 1 ≡ at + i = omega arith in
    stands_as bytes (at + i * 1) (at + i) (f (get_or xs i d)) (f (get_or xs i d)) e refl (each_stands bytes f 1 at xs i d long lt h)
