-- Successions: items that follow one another from a slot on.
use Rattle.std.proofs.Common.{◌≡◌, ◌≢◌, ℕ, zero, suc, ◌<◌, ◌≤◌, ◌⊎◌, true, false, eqb, List, [], ◌∷◌, length, Option, Some}
use Rattle.std.proofs.Common.{None, refl, sym, ap, ◌∙◌, subst, arith, inl, inr}
use Rattle.std.proofs.lemmas.Bool.{cases_eq, eqb-true, eq-eqb, ne_eqb, or_cases, false≢true, or_right}
use Rattle.std.proofs.lemmas.Map.Steps.{length-le_from_distinct_below}
use Rattle.std.specs.List.{list_any, IsDistinct, AllByRecursion}
use Rattle.pbd_chain.specs.declared.links.Slot.{Slot}
use Rattle.pbd_chain.specs.declared.links.Slot.TheVariants.{Head, After}
use Rattle.pbd_chain.specs.Succession.{IsSuccession, follow}
use Rattle.pbd_chain.specs.Changes.{LinksFront, Unlinks}
use Rattle.pbd_chain.specs.Linked.{is_in, without}

-- ---- membership
abbrev pub In : ℕ → List ℕ → Type 0
In x [] = ⊥
In x (y ∷ ys) = (y ≡ x) ⊎ In x ys

pub In-from_test : (x : ℕ) (xs : List ℕ) → is_in x xs ≡ true → In x xs
In-from_test x [] h = absurd (false≢true h)
In-from_test x (y ∷ ys) h = elim (or_cases (eqb y x) (is_in x ys) h) [ inl e ↦ inl (eqb-true y x e) | inr t ↦ inr (In-from_test x ys t) ]

pub test-from_In : (x : ℕ) (xs : List ℕ) → In x xs → is_in x xs ≡ true
test-from_In x [] h = absurd h
test-from_In x (y ∷ ys) (inl e) = rw (eq-eqb y x e) refl
test-from_In x (y ∷ ys) (inr t) = or_right (eqb y x) (is_in x ys) (test-from_In x ys t)

In-from_eqb : (x : ℕ) (xs : List ℕ) → list_any (eqb x) xs ≡ true → In x xs
In-from_eqb x [] h = absurd (false≢true h)
In-from_eqb x (y ∷ ys) h = elim (or_cases (eqb x y) (list_any (eqb x) ys) h)
    [ inl e ↦ inl (sym (eqb-true x y e)) | inr t ↦ inr (In-from_eqb x ys t) ]

apart-from_none : (x : ℕ) (xs : List ℕ) → (In x xs → ⊥) → AllByRecursion (λ y. eqb x y ≡ false) xs
apart-from_none x [] h = tt
apart-from_none x (y ∷ ys) h = (ne_eqb x y (λ e. h (inl (sym e))), apart-from_none x ys (λ i. h (inr i)))

pub In-without : (x y : ℕ) (xs : List ℕ) → In y (without x xs) → In y xs
In-without x y [] h = h
In-without x y (z ∷ zs) h = elim (cases_eq z x) [
  | inl e ↦ (let k : In y (without x zs) = rw (eq-eqb z x e) at h in inr (In-without x y zs k))
  | inr ne ↦ (let k : In y (z ∷ without x zs) = rw (ne_eqb z x ne) at h in elim k [ inl e ↦ inl e | inr t ↦ inr (In-without x y zs t) ])
]

pub without-In : (x y : ℕ) (xs : List ℕ) → In y xs → y ≢ x → In y (without x xs)
without-In x y [] h ne = h
without-In x y (z ∷ zs) (inl e) ne = rw (ne_eqb z x (λ k. ne (sym e ∙ k))) (inl e)
without-In x y (z ∷ zs) (inr t) ne = elim (cases_eq z x) [
  | inl e ↦ rw (eq-eqb z x e) (without-In x y zs t ne)
  | inr k ↦ rw (ne_eqb z x k) (inr (without-In x y zs t ne))
]

-- ---- one state
module _ (f : Slot → Option ℕ) (g : ℕ → Option Slot) where
  -- what stands behind the slot tells the slot
  pub tells_slot : (s : Slot) (xs : List ℕ) → IsSuccession f g s xs → (z : ℕ) → f s ≡ Some z → g z ≡ Some s
  tells_slot s [] h z e = cc
  tells_slot s (x ∷ xs) h z e = let same : x ≡ z = cc in subst (λ (y : ℕ). g y ≡ Some s) same h.1

  -- where an item of a succession stands
  pub record Stands (s : Slot) (xs : List ℕ) (x : ℕ) (r : Slot) : Type 0 where
    pub tells : g x ≡ Some r
    pub holds : f r ≡ Some x
    pub behind : (z : ℕ) → f (After x) ≡ Some z → g z ≡ Some (After x)
    pub which : (r ≡ s) ⊎ ((w : ℕ) × In w xs × (r ≡ After w))

  pub stands : (s : Slot) (xs : List ℕ) (x : ℕ) → IsSuccession f g s xs → In x xs → (r : Slot) × Stands s xs x r
  stands s [] x h i = absurd i
  stands s (y ∷ ys) x h (inl e) = (
    s,
    record {
      tells = subst (λ (n : ℕ). g n ≡ Some s) e h.1;
      holds = subst (λ (n : ℕ). f s ≡ Some n) e h.0;
      behind = subst (λ (n : ℕ). (z : ℕ) → f (After n) ≡ Some z → g z ≡ Some (After n)) e (tells_slot (After y) ys h.2);
      which = inl refl;
    },
  )
  stands s (y ∷ ys) x h (inr i) = let r = stands (After y) ys x h.2 i in (
    r.0,
    record {
      tells = r.1.tells;
      holds = r.1.holds;
      behind = r.1.behind;
      which = elim r.1.which [ inl e ↦ inr (y, inl refl, e) | inr w ↦ inr (w.0, inr w.1, w.2) ];
    },
  )

  -- a succession whose slot is behind none of its items has no item twice
  pub distinct : (s : Slot) (xs : List ℕ) → IsSuccession f g s xs → ((w : ℕ) → In w xs → s ≡ After w → ⊥) → IsDistinct eqb xs
  unfolding IsDistinct
  distinct s [] h fresh = tt
  distinct s (x ∷ xs) h fresh =
      let not_again : In x xs → ⊥ = λ i. let r = stands (After x) xs x h.2 i in
      let same : s ≡ r.0 = let a = r.1.tells in let b = h.1 in cc in
      elim r.1.which [ inl e ↦ fresh x (inl refl) (same ∙ e) | inr w ↦ fresh w.0 (inr w.1) (same ∙ w.2) ] in (
        apart-from_none x xs not_again,
        distinct (After x) xs h.2
            (λ w i e. not_again (subst (λ (n : ℕ). In n xs) (let k : w ≡ x = cc in k) i)),
      )

  pub length_le : (n c : ℕ) (xs : List ℕ) → IsSuccession f g (Head c) xs → ((x : ℕ) → In x xs → x < n) → length xs ≤ n
  length_le n c xs h below = length-le_from_distinct_below xs n (distinct (Head c) xs h (λ w i e. cc)) (λ q t. below q (In-from_eqb q xs t))

  pub follow_is : (n : ℕ) (s : Slot) (xs : List ℕ) → IsSuccession f g s xs → length xs ≤ n → follow f n s ≡ xs
  follow_is zero s [] h l = refl
  follow_is zero s (x ∷ xs) h l = absurd (omega arith)
  follow_is (suc n) s [] h l = rw (h, follow) refl
  follow_is (suc n) s (x ∷ xs) h l = rw (h.0, follow) (ap (λ (ys : List ℕ). x ∷ ys) (follow_is n (After x) xs h.2 (omega arith)))

-- ---- an item goes
module _ {f f' : Slot → Option ℕ} {g g' : ℕ → Option Slot} {x : ℕ} {p : Slot} (u : Unlinks f f' g g' x p)
    (was : g x ≡ Some p) (holds : f p ≡ Some x) (behind : (z : ℕ) → f (After x) ≡ Some z → g z ≡ Some (After x)) where
  stays : (s : Slot) (y : ℕ) → y ≢ x → g y ≡ Some s → s ≢ After x → g' y ≡ Some s
  stays s y ne e s_ne = u.rest y ne (λ k. s_ne (let b = behind y k in cc)) ∙ e

  pub succession-unlinked : (s : Slot) (xs : List ℕ) → IsSuccession f g s xs → s ≢ After x → IsSuccession f' g' s (without x xs)
  succession-unlinked s [] h s_ne = u.others s (λ e. let k = ap f e in cc) ∙ h
  succession-unlinked s (y ∷ []) h s_ne = elim (cases_eq y x) [
    | inl e ↦ rw (eq-eqb y x e) (let same : s ≡ p = (let a = h.1 in let b = ap g e in cc) in
        subst (λ (r : Slot). f' r ≡ None) (sym same) (u.here ∙ ap (λ (n : ℕ). f (After n)) (sym e) ∙ h.2))
    | inr ne ↦ rw (ne_eqb y x ne) (
      u.others s (λ e. let k = ap f e in let a = h.0 in ne cc) ∙ h.0,
      stays s y ne h.1 s_ne,
      succession-unlinked (After y) [] h.2 (λ e. ne cc),
    )
  ]
  succession-unlinked s (y ∷ z ∷ zs) h s_ne = elim (cases_eq y x) [
    | inl e ↦ (let same : s ≡ p = (let a = h.1 in let b = ap g e in cc) in
        let next : f (After x) ≡ Some z = ap (λ (n : ℕ). f (After n)) (sym e) ∙ h.2.0 in
        let other : z ≢ x = λ k. s_ne (let a = h.2.1 in let b = ap g k in cc) in
        rw (eq-eqb y x e, ne_eqb z x other)
        (subst (λ (r : Slot). (f' r ≡ Some z) × (g' z ≡ Some r) × IsSuccession f' g' (After z) (without x zs)) (sym same)
        (u.here ∙ next, u.moved z other next, succession-unlinked (After z) zs h.2.2 (λ k. other cc))))
    | inr ne ↦ rw (ne_eqb y x ne) (
      u.others s (λ e. let k = ap f e in let a = h.0 in ne cc) ∙ h.0,
      stays s y ne h.1 s_ne,
      succession-unlinked (After y) (z ∷ zs) h.2 (λ e. ne cc),
    )
  ]

-- ---- an item comes
module _ {f f' : Slot → Option ℕ} {g g' : ℕ → Option Slot} {c x : ℕ} (l : LinksFront f f' g g' c x)
    (free : g x ≡ None) (first : (z : ℕ) → f (Head c) ≡ Some z → g z ≡ Some (Head c)) where
  another : (s : Slot) (y : ℕ) → g y ≡ Some s → y ≢ x
  another s y e k = let b = ap g k in cc

  pub succession-kept : (s : Slot) (xs : List ℕ) → IsSuccession f g s xs → s ≢ Head c → s ≢ After x → IsSuccession f' g' s xs
  succession-kept s [] h not_head not_after = l.others s not_head not_after ∙ h
  succession-kept s (y ∷ ys) h not_head not_after = (
    l.others s not_head not_after ∙ h.0,
    l.rest y (another s y h.1) (λ e. not_head (let b = first y e in let a = h.1 in cc)) ∙ h.1,
    succession-kept (After y) ys h.2 (λ e. cc) (λ e. another s y h.1 cc),
  )

  pub succession-linked : (xs : List ℕ) → IsSuccession f g (Head c) xs → IsSuccession f' g' (Head c) (x ∷ xs)
  succession-linked [] h = (l.head, l.own, l.behind ∙ h)
  succession-linked (z ∷ zs) h = (
    l.head,
    l.own,
    (
      l.behind ∙ h.0,
      l.moved z (another (Head c) z h.1) h.0,
      succession-kept (After z) zs h.2 (λ e. cc) (λ e. another (Head c) z h.1 cc),
    ),
  )
