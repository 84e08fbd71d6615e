-- The cells round a place: two on each axis.
use Rattle.std.proofs.Common.{◌≡◌, ℕ, zero, ◌+◌, ◌*◌, ◌≤◌, ◌&&◌, Bool, true, false, cond, eqb, List, [], ◌∷◌, ◌++◌, refl, ◌∙◌, arith}
use Rattle.std.proofs.lemmas.Bool.Decides.{nat_tests}
use Rattle.std.specs.List.{flat_map}

-- how many elements pass
abbrev pub passing : {X : Type 0} → (X → Bool) → List X → ℕ
passing p [] = 0
passing p (x ∷ xs) = cond (p x) 1 0 + passing p xs

pub passing-append : {X : Type 0} (p : X → Bool) (xs ys : List X) → passing p (xs ++ ys) ≡ passing p xs + passing p ys
passing-append p [] ys = omega arith
passing-append p (x ∷ xs) ys = omega (arith, passing-append p xs ys)

-- a number and the next
abbrev pub axis : ℕ → List ℕ
axis a = (a + 0) ∷ (a + 1) ∷ []

pub passing-axis : (a b : ℕ) → a ≤ b → b ≤ a + 1 → passing (λ d. eqb d b) (axis a) ≡ 1
passing-axis a b h k = grind (arith, nat_tests)

abbrev pub map_pair : {X Y : Type 0} → X → List Y → List (X × Y)
map_pair x [] = []
map_pair x (y ∷ ys) = (x, y) ∷ map_pair x ys

pub none_if : (b : Bool) → zero ≡ cond b zero zero
none_if true = refl
none_if false = refl

passing-map_pair : {X Y : Type 0} (p : X → Bool) (q : Y → Bool) (x : X) (ys : List Y)
    → passing (λ (z : X × Y). p z.0 && q z.1) (map_pair x ys) ≡ cond (p x) (passing q ys) 0
passing-map_pair {X = X} {Y = Y} p q x [] = none_if (p x)
passing-map_pair {X = X} {Y = Y} p q x (y ∷ ys) = both_pass (p x) (q y) (passing-map_pair p q x ys)
  where
    both_pass : (b c : Bool) → passing (λ (z : X × Y). p z.0 && q z.1) (map_pair x ys) ≡ cond b (passing q ys) 0
        → cond (b && c) 1 0 + passing (λ (z : X × Y). p z.0 && q z.1) (map_pair x ys) ≡ cond b (cond c 1 0 + passing q ys) 0
    both_pass true true r = omega (arith, r)
    both_pass true false r = omega (arith, r)
    both_pass false true r = omega (arith, r)
    both_pass false false r = omega (arith, r)

-- a test of pairs part by part passes as many as the product
pub passing-product : {X Y : Type 0} (p : X → Bool) (q : Y → Bool) (xs : List X) (ys : List Y)
    → passing (λ (z : X × Y). p z.0 && q z.1) (flat_map (λ x. map_pair x ys) xs) ≡ passing p xs * passing q ys
passing-product {X = X} {Y = Y} p q [] ys = omega arith
passing-product {X = X} {Y = Y} p q (x ∷ xs) ys = passing-append (λ z. p z.0 && q z.1) (map_pair x ys) (flat_map (λ x. map_pair x ys) xs)
    ∙ product_more (p x) (passing-map_pair p q x ys) (passing-product p q xs ys)
  where
    product_more : (b : Bool) → passing (λ (z : X × Y). p z.0 && q z.1) (map_pair x ys) ≡ cond b (passing q ys) 0
        → passing (λ (z : X × Y). p z.0 && q z.1) (flat_map (λ x. map_pair x ys) xs) ≡ passing p xs * passing q ys
        → passing (λ (z : X × Y). p z.0 && q z.1) (map_pair x ys) + passing (λ (z : X × Y). p z.0 && q z.1)
        (flat_map (λ x. map_pair x ys) xs) ≡ (cond b 1 0 + passing p xs) * passing q ys
    product_more true r s = omega (arith, r, s)
    product_more false r s = omega (arith, r, s)

-- the eight cells
abbrev pub around : ℕ → ℕ → ℕ → List ((ℕ × ℕ) × ℕ)
around a b c = flat_map (λ w. map_pair w (axis c)) (flat_map (λ x. map_pair x (axis b)) (axis a))

-- exactly one of the eight is a cell that is the corner or the next on each axis
pub passing-around : (a b c a' b' c' : ℕ) → a ≤ a' → a' ≤ a + 1 → b ≤ b' → b' ≤ b + 1 → c ≤ c' → c' ≤ c + 1
    → passing (λ (z : (ℕ × ℕ) × ℕ). eqb z.0.0 a' && eqb z.0.1 b' && eqb z.1 c') (around a b c) ≡ 1
passing-around a b c a' b' c' h h' k k' l l' =
    passing-product (λ (w : ℕ × ℕ). eqb w.0 a' && eqb w.1 b') (λ e. eqb e c') (flat_map (λ x. map_pair x (axis b)) (axis a)) (axis c)
    ∙ rw (
      passing-product (λ d. eqb d a') (λ e. eqb e b') (axis a) (axis b),
      passing-axis a a' h h',
      passing-axis b b' k k',
      passing-axis c c' l l',
    ) refl
