-- Columns that are filled from the front.
use Rattle.std.proofs.Common.{◌≡◌, ℕ, ◌+◌, ◌<◌, List, length, get_or, slice_set, sym, ◌∙◌, arith, inl, inr, subst}
use Rattle.std.proofs.lemmas.List.{length-set, get_or-set_same, get_or-set_other}
use Rattle.pbd_num.proofs.Below.{split_below}

-- a column of 128, of which the first j are what P says
pub record Filled {A : Type 0} (d : A) (P : ℕ → A → Type 0) (j : ℕ) (xs : List A) : Type 0 where
  pub whole : length xs ≡ 128
  pub below : (k : ℕ) → k < j → P k (get_or xs k d)

pub filled_none : {A : Type 0} {d : A} {P : ℕ → A → Type 0} {xs : List A} → length xs ≡ 128 → Filled d P 0 xs
filled_none {A} {d} {P} {xs} whole = record { whole = whole; below = λ k h. absurd (omega arith) }

pub filled_more : {A : Type 0} {d : A} {P : ℕ → A → Type 0} {j : ℕ} {xs : List A} (v : A) → j < 128 → P j v → Filled d P j xs
    → Filled d P (j + 1)
    (slice_set xs j v)
filled_more {A} {d} {P} {j} {xs} v room is h = record {
  whole = length-set xs j v ∙ h.whole;
  below = λ k q. elim (split_below k j q) [
    | inl b ↦ subst (P k) (sym (get_or-set_other xs j k v d (λ e. absurd (omega (arith, b, e))))) (h.below k b)
    | inr e ↦ subst (λ (n : ℕ). P n (get_or (slice_set xs j v) n d)) (sym e)
        (subst (P j) (sym (get_or-set_same xs j v d (omega (arith, h.whole)))) is)
  ];
}

-- the same by what follows of each
pub filled_as : {A : Type 0} {d : A} {P Q : ℕ → A → Type 0} {j : ℕ} {xs : List A} → Filled d P j xs → ((k : ℕ) (x : A) → P k x → Q k x)
    → Filled d Q j xs
filled_as {A} {d} {P} {Q} {j} {xs} h then = record { whole = h.whole; below = λ k p. then k (get_or xs k d) (h.below k p) }
