-- What several calls of a source or a sink did together, where it tells what it holds.
use Rattle.std.proofs.Common.{◌≡◌, ◌∙◌, sym, ap, refl, ℕ, ◌+◌, ◌<◌, ◌≤◌, min, List, [], ◌∷◌, ◌++◌, length, get_or, take, drop, Option, Some}
use Rattle.std.proofs.Common.{None, Result, Ok, Err, arith, append_assoc, append-nil, zero-add, zero, suc}
use Rattle.std.proofs.lemmas.List.{take-append-le, take_min, drop_at}
use Rattle.std.specs.Io.KnownBytes.{Appends, Consumes, IsAtEnd}
use Rattle.std.specs.List.{flat_map}
use Rattle.pbd_io.specs.Causes.{HasRisen}
use Rattle.pbd_io.specs.Pieces.{AppendsPrefix, WritesPiece}

pub appends_then : (a b c : Option (List ℕ)) (x y : List ℕ) → Appends a b x → Appends b c y → Appends a c (x ++ y)
appends_then None b c x y first second = tt
appends_then (Some p) None c x y first second = absurd first
appends_then (Some p) (Some q) None x y first second = absurd second
appends_then (Some p) (Some q) (Some r) x y first second = rw (second, first) (append_assoc p x y)

pub appends_nothing : (a : Option (List ℕ)) → Appends a a []
appends_nothing None = tt
appends_nothing (Some p) = sym (append-nil p)

take_past : (x y : List ℕ) (n : ℕ) → take (length x + n) (x ++ y) ≡ x ++ take n y
take_past [] y n = rw zero-add refl
take_past (b ∷ x) y n = let e : length (b ∷ x) + n ≡ suc (length x + n) = omega arith in rw e (ap (λ t. b ∷ t) (take_past x y n))

pub prefix_then : (a b c : Option (List ℕ)) (x y : List ℕ) → Appends a b x → AppendsPrefix b c y → AppendsPrefix a c (x ++ y)
prefix_then a b c x y first (n, second) = (length x + n, rw take_past (appends_then a b c x (take n y) first second))

pub prefix_longer : (a b : Option (List ℕ)) (x y : List ℕ) → AppendsPrefix a b x → AppendsPrefix a b (x ++ y)
prefix_longer a b x y (n, front) =
    let le : min n (length x) ≤ length x = omega arith in
    let e : take (min n (length x)) (x ++ y) ≡ take n x = take-append-le (min n (length x)) x y le ∙ take_min n x in
    (min n (length x), rw e front)

pub rose_later : (a b c : ℕ) → a ≤ b → HasRisen b c → HasRisen a c
rose_later a b c le rose = omega (arith, rose)

-- what is told and consumed to the end is all that was told
pub consumed_all : (input : List ℕ) (new : Option (List ℕ)) (bytes : List ℕ)
    → Consumes (Some input) new bytes → IsAtEnd new → (input ≡ bytes) × (new ≡ Some [])
consumed_all input None bytes consumed ended = absurd consumed
consumed_all input (Some rest) bytes consumed ended = rw ended (rw ended at consumed ∙ append-nil bytes, refl)

-- and what is left of it, at the end or before
pub consumed_some : (input : List ℕ) (new : Option (List ℕ)) (bytes : List ℕ)
    → Consumes (Some input) new bytes → new ≡ Some (drop (length bytes) input)
consumed_some input None bytes consumed = absurd consumed
consumed_some input (Some rest) bytes consumed = rw consumed (ap (λ t. Some t) (sym (drop_at bytes rest (length bytes) refl)))

-- ---- a call after others that were done

pub piece_then : {T E : Type 0} (a b c : Option (List ℕ)) (r : Result T E) (x y : List ℕ)
    → Appends a b x → WritesPiece b c r y → WritesPiece a c r (x ++ y)
piece_then a b c (Ok t) x y first second = appends_then a b c x y first second
piece_then a b c (Err e) x y first second = prefix_then a b c x y first second

-- ---- one piece for each item of a list

pub flat_at : {X : Type 0} (f : X → List ℕ) (xs : List X) (i : ℕ) (d : X) (piece : List ℕ)
    → i < length xs → piece ≡ f (get_or xs i d) → flat_map f xs ≡ flat_map f (take i xs) ++ (piece ++ flat_map f (drop (i + 1) xs))
flat_at f [] i d piece lt is = absurd (omega arith)
flat_at f (x ∷ xs) zero d piece lt is = rw is refl
flat_at f (x ∷ xs) (suc i) d piece lt is =
    let e : suc i + 1 ≡ suc (i + 1) = omega arith in
    rw e (ap (λ t. f x ++ t) (flat_at f xs i d piece (omega (arith, lt)) is)
    ∙ sym (append_assoc (f x) (flat_map f (take i xs)) (piece ++ flat_map f (drop (i + 1) xs))))

-- the pieces of the items before i are written, and then some prefix of that of item i
pub failed_next : {X : Type 0} (f : X → List ℕ) (xs : List X) (i : ℕ) (d : X) (piece : List ℕ) (old mid new : Option (List ℕ))
    → Appends old mid (flat_map f (take i xs)) → i < length xs → piece ≡ f (get_or xs i d) → AppendsPrefix mid new piece
    → AppendsPrefix old new (flat_map f xs)
failed_next f xs i d piece old mid new before lt is failed =
    rw (flat_at f xs i d piece lt is) (prefix_then _ _ _ _ _ before (prefix_longer _ _ piece _ failed))
