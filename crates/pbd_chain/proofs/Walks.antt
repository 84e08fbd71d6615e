-- What a walk along a chain meets.
use Rattle.std.proofs.Common.{◌≡◌, ◌≢◌, ℕ, zero, suc, ◌+◌, ◌<◌, ◌≤◌, ◌||◌, ◌&&◌, Bool, true, false, not, eqb, List, [], ◌∷◌, ◌++◌, length}
use Rattle.std.proofs.Common.{map, take, set, Some, None, slice_get, refl, sym, ap, ◌∙◌, arith, inl, inr, add-one, ◌⊎◌}
use Rattle.std.proofs.lemmas.Bool.{cases_eq, eq-eqb, ne_eqb, or_right}
use Rattle.std.proofs.lemmas.List.{get_or-set_same, get_or-set_other}
use Rattle.std.proofs.Math.ListN.{get_or-map}
use Rattle.std.specs.List.{list_any}
use Rattle.pbd_chain.specs.Linked.{is_in, is_linked, chain_at, without}

pub get_none : (xs : List ℕ) (k : ℕ) → slice_get xs k ≡ None → length xs ≤ k
get_none [] k e = omega arith
get_none (y ∷ ys) zero e = absurd (let no : ⊥ = cc in no)
get_none (y ∷ ys) (suc k) e = omega (arith, get_none ys k e)

pub take_get : (xs : List ℕ) (k x : ℕ) → slice_get xs k ≡ Some x → take (suc k) xs ≡ take k xs ++ x ∷ []
take_get [] k x e = absurd (let no : ⊥ = cc in no)
take_get (y ∷ ys) zero x e = let s : y ≡ x = cc in ap (λ (n : ℕ). n ∷ []) s
take_get (y ∷ ys) (suc k) x e = ap (λ (zs : List ℕ). y ∷ zs) (take_get ys k x e)

pub get_in : (xs : List ℕ) (k x : ℕ) → slice_get xs k ≡ Some x → is_in x xs ≡ true
get_in [] k x e = absurd (let no : ⊥ = cc in no)
get_in (y ∷ ys) zero x e = let s : y ≡ x = cc in rw (eq-eqb y x s) refl
get_in (y ∷ ys) (suc k) x e = or_right (eqb y x) (is_in x ys) (get_in ys k x e)

pub chain_linked : (xss : List (List ℕ)) (c x : ℕ) → c < length xss → is_in x (chain_at xss c) ≡ true → is_linked xss x ≡ true
chain_linked [] c x l e = absurd (omega arith)
chain_linked (xs ∷ xss) zero x l e = rw e refl
chain_linked (xs ∷ xss) (suc c) x l e = or_right (is_in x xs) (is_linked xss x) (chain_linked xss c x (omega arith) e)

-- an item that no chain holds is not linked
pub not_linked : (xss : List (List ℕ)) (x : ℕ) → ((c : ℕ) → c < length xss → is_in x (chain_at xss c) ≡ false) → is_linked xss x ≡ false
not_linked [] x h = refl
not_linked (xs ∷ xss) x h = rw (h 0 (omega arith)) (not_linked xss x (λ c l. h (suc c) (omega arith)))

-- the first k items and the next
any_step : (p : ℕ → Bool) (xs : List ℕ) (k x : ℕ) → slice_get xs k ≡ Some x → list_any p (take k xs) ≡ false → p x ≡ false
    → list_any p (take (suc k) xs) ≡ false
any_step p [] k x e before here = absurd (let no : ⊥ = cc in no)
any_step p (y ∷ ys) zero x e before here = let s : y ≡ x = cc in rw (s, here) refl
any_step p (y ∷ ys) (suc k) x e before here = any_so_far (p y) before (λ h. any_step p ys k x e h here)
  where
    any_so_far : (b : Bool) → (b || list_any p (take k ys)) ≡ false → (list_any p (take k ys) ≡ false → list_any p (take (suc k) ys) ≡ false)
        → (b || list_any p (take (suc k) ys)) ≡ false
    any_so_far true h more = h
    any_so_far false h more = more h

pub any_more : (p : ℕ → Bool) (xs : List ℕ) (k x : ℕ) → slice_get xs k ≡ Some x → list_any p (take k xs) ≡ false → p x ≡ false
    → list_any p (take (k + 1) xs) ≡ false
any_more p xs k x e before here = ap (λ (n : ℕ). list_any p (take n xs)) (add-one k) ∙ any_step p xs k x e before here

-- an item that passes
pub any_here : (p : ℕ → Bool) (xs : List ℕ) (x : ℕ) → is_in x xs ≡ true → p x ≡ true → list_any p xs ≡ true
any_here p [] x e here = e
any_here p (y ∷ ys) x e here = elim (cases_eq y x) [
  | inl s ↦ rw (s, here) refl
  | inr ne ↦ (let later : is_in x ys ≡ true = rw (ne_eqb y x ne) at e in or_right (p y) (list_any p ys) (any_here p ys x later here))
]

pub any_found : (p : ℕ → Bool) (xs : List ℕ) → list_any p xs ≡ true → (x : ℕ) × (is_in x xs ≡ true) × (p x ≡ true)
any_found p [] e = absurd (let no : ⊥ = cc in no)
any_found p (y ∷ ys) e = found_here_or_behind (p y) refl e (λ h. any_found p ys h)
  where
    found_here_or_behind : (b : Bool) → p y ≡ b → (b || list_any p ys) ≡ true → (list_any p ys ≡ true → (x : ℕ) × (is_in x ys ≡ true) × (p x ≡ true))
        → (x : ℕ) × ((eqb y x || is_in x ys) ≡ true) × (p x ≡ true)
    found_here_or_behind true h k more = (y, rw (eq-eqb y y refl) refl, h)
    found_here_or_behind false h k more = let r = more k in (r.0, or_right (eqb y r.0) (is_in r.0 ys) r.1, r.2)

pub in_without : (x y : ℕ) (xs : List ℕ) → is_in x (without y xs) ≡ (not (eqb y x) && is_in x xs)
in_without x y [] = false_either_way (eqb y x)
  where
    false_either_way : (b : Bool) → false ≡ (not b && false)
    false_either_way true = refl
    false_either_way false = refl
in_without x y (z ∷ zs) = elim (cases_eq z y) [
  | inl e ↦ rw (e, eq-eqb y y refl) (in_without x y zs ∙ not_or (eqb y x) (is_in x zs))
  | inr ne ↦ rw (ne_eqb z y ne) (rw (in_without x y zs) (more ne (cases_eq z x)))
]
  where
    not_or : (b r : Bool) → (not b && r) ≡ (not b && (b || r))
    not_or true r = refl
    not_or false r = refl

    other : (b r : Bool) → (false || (not b && r)) ≡ (not b && (false || r))
    other true r = refl
    other false r = refl

    more : z ≢ y → ((z ≡ x) ⊎ (z ≢ x)) → (eqb z x || (not (eqb y x) && is_in x zs)) ≡ (not (eqb y x) && (eqb z x || is_in x zs))
    more ne (inl e) = let ny : y ≢ x = λ s. ne (e ∙ sym s) in rw (eq-eqb z x e, ne_eqb y x ny) refl
    more ne (inr n) = rw (ne_eqb z x n) (other (eqb y x) (is_in x zs))

-- linking puts an item into one chain
pub in_linked : (xss : List (List ℕ)) (c y : ℕ) → c < length xss → (p x : ℕ)
    → is_in x (chain_at (set xss c (y ∷ chain_at xss c)) p) ≡ ((eqb c p && eqb y x) || is_in x (chain_at xss p))
in_linked xss c y l p x = elim (cases_eq c p) [
  | inl e ↦ rw (← e, get_or-set_same xss c (y ∷ chain_at xss c) [] l, eq-eqb c c refl) refl
  | inr ne ↦ rw (get_or-set_other xss c p (y ∷ chain_at xss c) [] (λ e. ne (sym e)), ne_eqb c p ne) refl
]

-- unlinking takes it out of all
pub in_unlinked : (xss : List (List ℕ)) (y p x : ℕ) → is_in x (chain_at (map (without y) xss) p)
    ≡ (not (eqb y x) && is_in x (chain_at xss p))
in_unlinked xss y p x = ap (is_in x) (get_or-map (without y) xss p []) ∙ in_without x y (chain_at xss p)
