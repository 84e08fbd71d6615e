-- How many events and bonds there are.
use Rattle.std.proofs.Common.{◌≡◌, ◌≢◌, ℕ, zero, suc, ◌+◌, ◌*◌, ◌<◌, ◌≤◌, ◌==◌, ℤ, List, [], ◌∷◌, length, take, get_or, IsTrue, Bool, true}
use Rattle.std.proofs.Common.{false, cond, nat_lt, refl, sym, ◌∙◌, ap, arith, subst, inl, inr}
use Rattle.std.specs.List.{sum_by}
use Rattle.std.proofs.lemmas.Bool.{ltb-true, eq-eqb, ne_eqb, cases_eq}
use Rattle.std.proofs.lemmas.List.{length-take}
use Rattle.std.proofs.lemmas.List.Sums.{sum_by-cons}
use Rattle.pbd_world.specs.declared.bond.Bond.{Bond}
use Rattle.pbd_pair.specs.declared.bonds.Bonds.{Bonds}
use Rattle.pbd_pair.specs.Bonds.{bond_of}
use Rattle.pbd_pair.specs.Projecting.{ShareNone, IsBatch}
use Rattle.pbd_schedule.specs.declared.event.Event.{Event}
use Rattle.pbd_schedule.specs.declared.event.Event.TheVariants.{Read, WriteA, WriteB}
use Rattle.pbd_schedule.specs.Legal.{position_of, are_below, about, events_of, IsLegal}
use Rattle.pbd_schedule.specs.Stages.{accesses, bookings, stage_at, HaveCome}
use Rattle.pbd_pair.proofs.Examples.{left, right}

-- g of the first n numbers together
abbrev total : (ℕ → ℕ) → ℕ → ℕ
total g zero = 0
total g (suc n) = total g n + g n

total_same : (g h : ℕ → ℕ) (n : ℕ) → ((k : ℕ) → k < n → h k ≡ g k) → total h n ≡ total g n
total_same g h zero e = refl
total_same g h (suc n) e = omega (arith, total_same g h n (λ k q. e k (omega arith)), e n (omega arith))

-- one of them more
total_more : (g h : ℕ → ℕ) (p x n : ℕ) → p < n → h p ≡ x + g p → ((k : ℕ) → k ≢ p → h k ≡ g k) → total h n ≡ x + total g n
total_more g h p x zero q e o = absurd (omega arith)
total_more g h p x (suc n) q e o = elim (cases_eq n p) [
  | inl r ↦ (let here : h n ≡ x + g n = subst (λ (j : ℕ). h j ≡ x + g j) (sym r) e in
      omega (arith, here, total_same g h n (λ k s. o k (λ t. absurd (omega (arith, t, r))))))
  | inr d ↦ omega (arith, total_more g h p x n (omega (arith, d)) e o, o n d)
]

total_each : (g : ℕ → ℕ) (c n : ℕ) → ((k : ℕ) → k < n → g k ≡ c) → total g n ≡ n * c
total_each g c zero e = omega arith
total_each g c (suc n) e = omega (arith, total_each g c n (λ k q. e k (omega arith)), e n (omega arith))

total_at_most : (g : ℕ → ℕ) (n : ℕ) → ((k : ℕ) → k < n → g k ≤ 1) → total g n ≤ n
total_at_most g zero e = omega arith
total_at_most g (suc n) e = omega (arith, total_at_most g n (λ k q. e k (omega arith)), e n (omega arith))

-- ---- the events of all bonds

module _ (f : Event → ℕ) where
  by_bond : (m : ℕ) (events : List Event) → IsTrue (are_below m events) → sum_by f events ≡ total (λ k. sum_by f (about k events)) m
  by_bond m [] h = sym (total_each (λ k. 0) 0 m (λ k q. refl) ∙ (omega arith))
  by_bond m (e ∷ events) h =
      sum_by-cons f e events
      ∙ ap (λ (n : ℕ). f e + n) (by_bond m events (right (nat_lt (position_of e) m) (are_below m events) h))
      ∙ sym (total_more (λ k. sum_by f (about k events)) (λ k. sum_by f (about k (e ∷ events))) (position_of e) (f e) m
      (ltb-true (position_of e) m (left (nat_lt (position_of e) m) (are_below m events) h))
      (ap (λ (b : Bool). sum_by f (cond b (e ∷ about (position_of e) events) (about (position_of e) events)))
      (eq-eqb (position_of e) (position_of e) refl) ∙ sum_by-cons f e (about (position_of e) events))
      (λ k d. ap (λ (b : Bool). sum_by f (cond b (e ∷ about k events) (about k events))) (ne_eqb (position_of e) k (λ x. d (sym x)))))

  of_legal : (c m : ℕ) (events : List Event) → ((k : ℕ) → sum_by f (events_of k) ≡ c) → IsLegal m events → sum_by f events ≡ m * c
  of_legal c m events e legal = by_bond m events legal.positions
      ∙ total_each (λ k. sum_by f (about k events)) c m (λ k q. ap (sum_by f) (legal.each k q) ∙ e k)

pub accesses_of_legal : (m : ℕ) (events : List Event) → IsLegal m events → sum_by accesses events ≡ m * 4
accesses_of_legal m events legal = of_legal accesses 4 m events (λ k. refl) legal

pub bookings_of_legal : (m : ℕ) (events : List Event) → IsLegal m events → sum_by bookings events ≡ m * 1
bookings_of_legal m events legal = of_legal bookings 1 m events (λ k. refl) legal

all_full : (g : ℕ → ℕ) (n : ℕ) → ((k : ℕ) → k < n → g k ≤ 3) → total g n ≡ 3 * n → (k : ℕ) → k < n → g k ≡ 3
all_full g zero h e k q = absurd (omega (arith, q))
all_full g (suc n) h e k q = elim (cases_eq k n) [
  | inl x ↦ (let here : g k ≡ g n = ap g x in omega (arith, here, e, h n (omega arith), at_most n (λ j r. h j (omega arith))))
  | inr d ↦ all_full g n (λ j r. h j (omega arith)) (omega (arith, e, h n (omega arith), at_most n (λ j r. h j (omega arith)))) k
      (omega (arith, q, d))
] where
  at_most : (n : ℕ) → ((k : ℕ) → k < n → g k ≤ 3) → total g n ≤ 3 * n
  at_most zero h = omega arith
  at_most (suc n) h = omega (arith, at_most n (λ k q. h k (omega arith)), h n (omega arith))

ones : (events : List Event) → sum_by (λ (e : Event). 1) events ≡ length events
ones [] = refl
ones (e ∷ events) = omega (arith, sum_by-cons (λ (x : Event). 1) e events, ones events)

-- events that came in order are all of them where there are three of each bond
pub legal_of_many : (stages : List ℕ) (done : List Event) → HaveCome stages done → length done ≡ 3 * length stages
    → IsLegal (length stages) done
legal_of_many stages done h e = record {
  positions = h.positions;
  each = λ k q. h.each k q ∙ ap (λ (s : ℕ). take s (events_of k)) (full k q);
} where
  count : (k : ℕ) → k < length stages → length (about k done) ≡ stage_at stages k
  count k q = omega (arith, ap (λ (l : List Event). length l) (h.each k q), length-take (stage_at stages k) (events_of k), h.high k q)

  thrice_each : total (λ k. sum_by (λ (x : Event). 1) (about k done)) (length stages) ≡ 3 * length stages
  thrice_each = sym (by_bond (λ (x : Event). 1) (length stages) done h.positions) ∙ ones done ∙ e

  full : (k : ℕ) → k < length stages → stage_at stages k ≡ 3
  full k q = sym (count k q) ∙ sym (ones (about k done)) ∙ all_full (λ j. sum_by (λ (x : Event). 1) (about j done)) (length stages)
      (λ j r. omega (arith, ones (about j done), count j r, h.high j r)) thrice_each k q

-- ---- the ends of bonds without a common particle

abbrev one_if : Bool → ℕ
one_if true = 1
one_if false = 0

-- how many ends of the first m bonds are particle i
abbrev hits : (ℕ → Bond) → ℕ → ℕ → ℕ
hits B zero i = 0
hits B (suc m) i = one_if ((B m).a == i) + (one_if ((B m).b == i) + hits B m i)

module _ (B : ℕ → Bond) where
  no_hit : (m i : ℕ) → ((k : ℕ) → k < m → ((B k).a ≡ i → ⊥) × ((B k).b ≡ i → ⊥)) → hits B m i ≡ 0
  no_hit zero i h = refl
  no_hit (suc m) i h =
      let n = h m (omega arith) in
      omega (arith, ap one_if (ne_eqb (B m).a i n.0), ap one_if (ne_eqb (B m).b i n.1), no_hit m i (λ k q. h k (omega arith)))

  module _ (size : ℕ) where
    two_each : (m : ℕ) → ((k : ℕ) → k < m → (B k).a < size) → ((k : ℕ) → k < m → (B k).b < size) → total (hits B m) size ≡ 2 * m
    two_each zero h j = total_each (hits B zero) 0 size (λ k q. refl) ∙ (omega arith)
    two_each (suc m) h j =
        let first = total_more (λ i. one_if ((B m).b == i) + hits B m i) (hits B (suc m)) (B m).a 1 size (h m (omega arith))
        (ap (λ (b : Bool). one_if b + (one_if ((B m).b == (B m).a) + hits B m (B m).a)) (eq-eqb (B m).a (B m).a refl))
        (λ k d. omega (arith, ap one_if (ne_eqb (B m).a k (λ x. d (sym x))))) in
        let second = total_more (hits B m) (λ i. one_if ((B m).b == i) + hits B m i) (B m).b 1 size (j m (omega arith))
        (ap (λ (b : Bool). one_if b + hits B m (B m).b) (eq-eqb (B m).b (B m).b refl))
        (λ k d. omega (arith, ap one_if (ne_eqb (B m).b k (λ x. d (sym x))))) in
        omega (arith, first, second, two_each m (λ k q. h k (omega arith)) (λ k q. j k (omega arith)))

  one_hit : (m i : ℕ) → ((k : ℕ) → k < m → (B k).a ≢ (B k).b) → ((k l : ℕ) → k < l → l < m → ShareNone (B k) (B l)) → hits B m i ≤ 1
  one_hit zero i d s = omega arith
  one_hit (suc m) i d s = elim (cases_eq (B m).a i) [
    | inl e ↦ (let none = no_hit m i (λ k q. ((λ x. (s k m q (omega arith)).aa (x ∙ sym e)), (λ x. (s k m q (omega arith)).ba (x ∙ sym e))))
        in
        let other = ap one_if (ne_eqb (B m).b i (λ x. d m (omega arith) (e ∙ sym x))) in
        omega (arith, none, other, ap one_if (eq-eqb (B m).a i e)))
    | inr n ↦ elim (cases_eq (B m).b i) [
      | inl e ↦ (let none = no_hit m i (λ k q. (
        (λ x. (s k m q (omega arith)).ab (x ∙ sym e)),
        (λ x. (s k m q (omega arith)).bb (x ∙ sym e)),
      )) in
          omega (arith, none, ap one_if (ne_eqb (B m).a i n), ap one_if (eq-eqb (B m).b i e)))
      | inr o ↦ omega (
        arith,
        ap one_if (ne_eqb (B m).a i n),
        ap one_if (ne_eqb (B m).b i o),
        one_hit m i (λ k q. d k (omega arith)) (λ k l p q. s k l p (omega arith)),
      )
    ]
  ]

-- a batch has at most half as many bonds as there are particles
pub half_as_many : (limit : ℤ) (n : ℕ) (bonds : Bonds) (batch : List ℕ) → IsBatch limit n bonds batch → 2 * length batch ≤ n
half_as_many limit n bonds batch h =
    let B : ℕ → Bond = λ k. bond_of bonds (get_or batch k 0) in
    let all = two_each B n (length batch) (λ k q. (h.bond k q).first) (λ k q. (h.bond k q).second) in
    omega (
      arith,
      all,
      total_at_most (hits B (length batch)) n
          (λ i q. one_hit B (length batch) i (λ k r. (h.bond k r).different) (λ k l p r. h.apart.each k l p r)),
    )

-- each event books at most once
pub few_bookings : (events : List Event) → sum_by bookings events ≤ length events
few_bookings [] = omega arith
few_bookings (e ∷ events) = omega (arith, sum_by-cons bookings e events, once e, few_bookings events) where
  once : (e : Event) → bookings e ≤ 1
  once (Read k) = omega arith
  once (WriteA k) = omega arith
  once (WriteB k) = omega arith
