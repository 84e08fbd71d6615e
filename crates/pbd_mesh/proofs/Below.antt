-- Tests of each number below another.
use Rattle.std.proofs.Common.{◌≡◌, refl, sym, ◌∙◌, false, true, ◌<◌, ◌≤◌, Bool, arith, ℕ, ◌+◌, zero, suc, inl, inr}
use Rattle.std.specs.Prelude.{IsTrue}
use Rattle.std.proofs.lemmas.Bool.{and_parts, cases_lt, cases_Bool, false≢true}
use Rattle.pbd_mesh.specs.Numbered.{all_below}

-- a test of each number below n says so of each
pub below : (n : ℕ) (f : ℕ → Bool) (i : ℕ) → IsTrue (all_below n f) → i < n → IsTrue (f i)
unfolding all_below
below zero f i t within = absurd (omega arith)
below (suc n) f i t within = let h = and_parts (all_below n f) (f n) t in
    elim (cases_lt i n) [ inl p ↦ below n f i h.0 p | inr p ↦ let e : i ≡ n = omega arith in rw e h.1 ]

-- one number more
pub below_next : (n : ℕ) (f : ℕ → Bool) → IsTrue (all_below n f) → IsTrue (f n) → IsTrue (all_below (n + 1) f)
unfolding all_below
below_next n f so_far this = let e : n + 1 ≡ suc n = omega arith in rw (e, so_far, this) refl

-- a number that fails
pub not_below : (n : ℕ) (f : ℕ → Bool) (i : ℕ) → f i ≡ false → i < n → all_below n f ≡ false
not_below n f i fails within = elim (cases_Bool (all_below n f))
    [ inl t ↦ absurd (false≢true (sym fails ∙ below n f i t within)) | inr e ↦ e ]

-- all of them
pub below_all : (n : ℕ) (f : ℕ → Bool) (i : ℕ) → i ≤ n → n ≤ i → IsTrue (all_below i f) → true ≡ all_below n f
below_all n f i low high t = let e : n ≡ i = omega arith in rw e (sym t)
