-- What passed tests say, and which tests facts pass.
use Rattle.std.proofs.Common.{◌≡◌, refl, sym, ap, ◌∙◌, subst, ℕ, ◌≤◌, Bool, true, false, not, ◌&&◌, List, [], ◌∷◌}
use Rattle.std.proofs.Common.{arith, Result, Ok, Err, Option, Some, None}
use Rattle.std.specs.Prelude.{IsTrue, nat_le, nat_lt}
use Rattle.std.specs.Ordering.{int_eq}
use Rattle.std.proofs.lemmas.Bool.{and_parts, and_from, leb-true, le-leb, not-false}
use Rattle.std.proofs.lemmas.Bool.Decides.{nat_tests, Decides-int_eq}
use Rattle.pbd_world.specs.declared.totals.Class.{Class}
use Rattle.pbd_world.specs.Ledger.{Sum, zero_sum, SumWithin}
use Rattle.pbd_world.specs.Outcomes.{◌>>=◌}
use Rattle.pbd_sound.specs.declared.described.Unsound.{Unsound}
use Rattle.pbd_sound.specs.declared.described.Unsound.TheVariants as faults
use Rattle.pbd_sound.specs.Soundness.{Checked, faultless, without, is_sum_within, total_checked, is_same_sum}
use Rattle.pbd_num.proofs.Sizes.{none_by_size}

-- ---- one after another

pub both_pass : (r : Checked) (f : Unit {0} → Checked) → (r >>= f) ≡ Ok tt → (r ≡ Ok tt) × (f tt ≡ Ok tt)
both_pass (Ok x) f h = (refl, h)
both_pass (Err e) f h = cc

pub passed : (r : Checked) (f : Unit {0} → Checked) → r ≡ Ok tt → f tt ≡ Ok tt → (r >>= f) ≡ Ok tt
passed r f e h = ap (λ (s : Checked). s >>= f) e ∙ h

pub unless_passes : (t : Bool) (e : Unsound) → faultless ((t, e) ∷ []) ≡ Ok tt → t ≡ false
unless_passes true e h = cc
unless_passes false e h = refl

pub passes_unless : (t : Bool) (e : Unsound) → t ≡ false → faultless ((t, e) ∷ []) ≡ Ok tt
passes_unless t e h = ap (λ (b : Bool). faultless ((b, e) ∷ [])) h

pub two_pass : (t u : Bool) (e f : Unsound) → faultless ((t, e) ∷ (u, f) ∷ []) ≡ Ok tt → (t ≡ false) × (u ≡ false)
two_pass true u e f h = cc
two_pass false true e f h = cc
two_pass false false e f h = (refl, refl)

pub pass_two : (t u : Bool) (e f : Unsound) → t ≡ false → u ≡ false → faultless ((t, e) ∷ (u, f) ∷ []) ≡ Ok tt
pass_two t u e f h k = (λ i. faultless ((h i, e) ∷ (k i, f) ∷ []))

pub without_passes : (fault : ℕ → Unsound) (o : Option ℕ) → without fault o ≡ Ok tt → o ≡ None
without_passes fault None h = refl
without_passes fault (Some i) h = cc

pub passes_without : (fault : ℕ → Unsound) (o : Option ℕ) → o ≡ None → without fault o ≡ Ok tt
passes_without fault o e = ap (without fault) e

-- ---- tests and facts

pub is_not : (b : Bool) → b ≡ true → not b ≡ false
is_not true h = refl
is_not false h = cc

pub at_most : (n m : ℕ) → nat_lt m n ≡ false → n ≤ m
at_most n m h = grind (arith, nat_tests)

pub not_more : (n m : ℕ) → n ≤ m → nat_lt m n ≡ false
not_more n m h = grind (arith, nat_tests)

pub sum_facts : (most : ℕ) (s : Sum) → is_sum_within most s ≡ true → SumWithin most s
sum_facts most s h =
    let p = and_parts _ _ h in
    let q = and_parts _ _ p.0 in
    record { x = leb-true _ most q.0; y = leb-true _ most q.1; z = leb-true _ most p.1 }

pub sum_test : (most : ℕ) (s : Sum) → SumWithin most s → is_sum_within most s ≡ true
sum_test most s h = and_from _ _ (and_from _ _ (le-leb _ most h.x) (le-leb _ most h.y)) (le-leb _ most h.z)

pub total_facts : (class : Class) (most : ℕ) (s : Sum) → total_checked class most s ≡ Ok tt → SumWithin most s
total_facts class most s h = sum_facts most s (not-false _ (unless_passes _ (faults.Total class) h))

pub total_passes : (class : Class) (most : ℕ) (s : Sum) → SumWithin most s → total_checked class most s ≡ Ok tt
total_passes class most s h = passes_unless _ (faults.Total class) (is_not _ (sum_test most s h))

pub none_within : (s : Sum) → SumWithin 0 s → s ≡ zero_sum
none_within s h = λ i. record { x = none_by_size s.x h.x i; y = none_by_size s.y h.y i; z = none_by_size s.z h.z i }

pub within_none : (s : Sum) → s ≡ zero_sum → SumWithin 0 s
within_none s e = subst (λ (t : Sum). SumWithin 0 t) (sym e) (record { x = omega arith; y = omega arith; z = omega arith })

pub same_sum : (s t : Sum) → is_same_sum s t ≡ true → s ≡ t
same_sum s t h =
    let p = and_parts _ _ h in
    let q = and_parts _ _ p.0 in
    λ i. record { x = (Decides-int_eq s.x t.x).0 q.0 i; y = (Decides-int_eq s.y t.y).0 q.1 i; z = (Decides-int_eq s.z t.z).0 p.1 i }

pub sum_same : (s t : Sum) → s ≡ t → is_same_sum s t ≡ true
sum_same s t e =
    and_from _ _ (and_from _ _ ((Decides-int_eq s.x t.x).1 (ap (λ (u : Sum). u.x) e))
    ((Decides-int_eq s.y t.y).1 (ap (λ (u : Sum). u.y) e))) ((Decides-int_eq s.z t.z).1 (ap (λ (u : Sum). u.z) e))
