-- What loops over lines and scenes have in common.
use Rattle.std.proofs.Common.{◌≡◌, ◌∙◌, refl, ap, ℕ, ◌<◌, List, [], ◌∷◌, length, Option, Some, None, arith}
use Rattle.std.specs.Prelude.{MatchOption}
use Rattle.std.specs.Borrow.{Bor}
use Rattle.pbd_script.specs.Lines.{left_of}

-- ---- what is left of a text, seen as a list

next_left : {A : Type 0} (seen : List ℕ → List A) (all : List A) (x : A) (later : Option (Bor (List ℕ)))
    → MatchOption later (all ≡ x ∷ []) (λ rest. all ≡ x ∷ seen rest.now) → all ≡ x ∷ left_of seen later
next_left seen all x None is = is
next_left seen all x (Some rest) is = is

pub first_left : {A : Type 0} (seen : List ℕ → List A) (left later : Option (Bor (List ℕ))) (text : Bor (List ℕ)) (x : A)
    → left ≡ Some text → MatchOption later (seen text.now ≡ x ∷ []) (λ rest. seen text.now ≡ x ∷ seen rest.now)
    → left_of seen left ≡ x ∷ left_of seen later
first_left seen left later text x is next = ap (left_of seen) is ∙ next_left seen (seen text.now) x later next

pub none_left : {A : Type 0} (seen : List ℕ → List A) (left : Option (Bor (List ℕ))) → ((text : Bor (List ℕ)) → left ≡ Some text → ⊥)
    → left_of seen left ≡ []
none_left seen None none = refl
none_left seen (Some text) none = absurd (none text refl)

pub shorter : (ls : List (List ℕ)) (x : List ℕ) (left : List (List ℕ)) → ls ≡ x ∷ left → length left < length ls
shorter ls x left is = omega (arith, ap length is)
