-- Codes of items or nothing.
use Rattle.std.proofs.Common.{◌≡◌, ◌∙◌, ℕ, zero, suc, ◌<◌, List, ◌∷◌, length, map, get_or, set, replicate, Option, None}
use Rattle.std.proofs.Common.{refl, sym, ap}
use Rattle.std.proofs.lemmas.List.{get_or_read, map-set, length-map}
use Rattle.std.proofs.Math.ListN.{get_or-map}
use Rattle.pbd_chain.specs.Told.{told}

pub told_zeros : (n : ℕ) → map told (replicate n 0) ≡ replicate n None
told_zeros zero = refl
told_zeros (suc n) = ap (λ (xs : List (Option ℕ)). None ∷ xs) (told_zeros n)

-- what is read and written
pub code_read : (codes : List ℕ) (k x : ℕ) (r : Option ℕ) → k < length codes → x ≡ get_or codes k x → r ≡ told x
    → r ≡ get_or (map told codes) k None
code_read codes k x r l e is = is ∙ ap told (get_or_read codes k x l e 0) ∙ sym (get_or-map told codes k 0)

pub code_written : (codes was new : List ℕ) (k c : ℕ) (item : Option ℕ) → was ≡ codes → new ≡ set was k c → told c ≡ item
    → map told new ≡ set (map told codes) k item
code_written codes was new k c item same e is =
    ap (map told) (e ∙ ap (λ (xs : List ℕ). set xs k c) same) ∙ map-set told codes k c ∙ ap (set (map told codes) k) is

pub codes_cleared : (codes : List ℕ) → ((k : ℕ) → get_or codes k 0 ≡ 0) → (k : ℕ) → get_or (map told codes) k None ≡ None
codes_cleared codes h k = get_or-map told codes k 0 ∙ ap told (h k)

pub codes_length : (codes : List ℕ) → length (map told codes) ≡ length codes
codes_length codes = length-map codes told
