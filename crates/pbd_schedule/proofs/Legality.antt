-- Events that came in order begin a legal list, and no others do.
use Rattle.std.proofs.Common.{◌≡◌, ℕ, zero, suc, ◌+◌, ◌<◌, ◌≤◌, ◌==◌, List, [], ◌∷◌, ◌++◌, length, take, drop, replicate, IsTrue}
use Rattle.std.proofs.Common.{Bool, true, false, cond, ◌&&◌, nat_lt, ◌≢◌, refl, sym, ◌∙◌, ap, arith, subst, inl, inr}
use Rattle.std.specs.List.{list_all}
use Rattle.std.proofs.lemmas.Bool.{ltb-true, lt-ltb, false≢true, eq-eqb, eqb-true, ne_eqb, cases_eq, and_from}
use Rattle.std.proofs.lemmas.List.{take-append-drop, get_or-set_same, get_or-set_other, length-set, get_or-replicate, append-nil}
use Rattle.std.proofs.lemmas.List.{append_assoc}
use Rattle.std.proofs.Math.Seq.{take-length}
use Rattle.std.proofs.lemmas.List.Elements.{filter-append}
use Rattle.std.proofs.lemmas.List.Folds.{list_all-append}
use Rattle.pbd_schedule.specs.declared.event.Event.{Event}
use Rattle.pbd_schedule.specs.declared.event.Event.TheVariants.{Read, WriteA, WriteB}
use Rattle.pbd_schedule.specs.Legal.{position_of, event_at, are_below, about, events_of, IsLegal, BeginsLegal, IsMisplaced, StopsAt}
use Rattle.pbd_schedule.specs.Stages.{rank_of, stage_at, may_come, one_more, HaveCome}
use Rattle.pbd_pair.proofs.Examples.{left, right}

pub both : (a b : Bool) → IsTrue a → IsTrue b → IsTrue (a && b)
both true b h k = k
both false b h k = h

pub rank_low : (e : Event) → rank_of e ≤ 2
rank_low (Read k) = omega arith
rank_low (WriteA k) = omega arith
rank_low (WriteB k) = omega arith

-- ---- the events of one bond

about_own : (e : Event) (es : List Event) → about (position_of e) (e ∷ es) ≡ e ∷ about (position_of e) es
about_own e es = ap (λ (b : Bool). cond b (e ∷ about (position_of e) es) (about (position_of e) es))
    (eq-eqb (position_of e) (position_of e) refl)

about_other : (e : Event) (k : ℕ) (es : List Event) → (position_of e == k) ≡ false → about k (e ∷ es) ≡ about k es
about_other e k es h = ap (λ (b : Bool). cond b (e ∷ about k es) (about k es)) h

-- the event of rank s of a bond stands behind its first s
grown : (e : Event) (s : ℕ) → s ≡ rank_of e → take s (events_of (position_of e)) ++ e ∷ [] ≡ take (s + 1) (events_of (position_of e))
grown (Read k) s h = rw h refl
grown (WriteA k) s h = rw h refl
grown (WriteB k) s h = rw h refl

-- an event behind the first s of its bond is of rank s
rank_there : (k s : ℕ) (e : Event) (r : List Event) → s ≤ 3 → take s (events_of k) ++ e ∷ r ≡ events_of k → s ≡ rank_of e
rank_there k zero e r h q = sym (ap (λ l. rank_of (event_at l 0)) q)
rank_there k (suc zero) e r h q = sym (ap (λ l. rank_of (event_at l 1)) q)
rank_there k (suc (suc zero)) e r h q = sym (ap (λ l. rank_of (event_at l 2)) q)
rank_there k (suc (suc (suc zero))) e r h q = absurd (omega (arith, ap length q))
rank_there k (suc (suc (suc (suc s)))) e r h q = absurd (omega (arith, h))

three : (k s : ℕ) → s ≤ 3 → take s (events_of k) ≡ events_of k → s ≡ 3
three k zero h q = absurd (omega (arith, ap length q))
three k (suc zero) h q = absurd (omega (arith, ap length q))
three k (suc (suc zero)) h q = absurd (omega (arith, ap length q))
three k (suc (suc (suc zero))) h q = refl
three k (suc (suc (suc (suc s)))) h q = absurd (omega (arith, h))

-- ---- nothing came yet

pub none_came : (stages : List ℕ) → stages ≡ replicate (length stages) 0 → HaveCome stages []
none_came stages e = record {
  positions = refl;
  each = λ k q. sym (ap (λ (s : ℕ). take s (events_of k)) (zero_at k q));
  high = λ k q. omega (arith, zero_at k q);
} where
  zero_at : (k : ℕ) → k < length stages → stage_at stages k ≡ 0
  zero_at k q = ap (λ (l : List ℕ). stage_at l k) e ∙ get_or-replicate (length stages) k 0 0 q

-- ---- one event more

module _ (stages : List ℕ) (done : List Event) (h : HaveCome stages done) (e : Event) where
  below : (m : ℕ) → IsTrue (are_below m done) → position_of e < m → IsTrue (are_below m (done ++ e ∷ []))
  below m b q =
      list_all-append (λ (x : Event). nat_lt (position_of x) m) done (e ∷ [])
      ∙ both (are_below m done) (are_below m (e ∷ [])) b (both (nat_lt (position_of e) m) true (lt-ltb (position_of e) m q) refl)

  about_last : about (position_of e) (done ++ e ∷ []) ≡ about (position_of e) done ++ e ∷ []
  about_last = filter-append (λ (x : Event). position_of x == position_of e) done (e ∷ [])
      ∙ ap (λ l. about (position_of e) done ++ l) (about_own e [])

  about_before : (k : ℕ) → (position_of e == k) ≡ false → about k (done ++ e ∷ []) ≡ about k done
  about_before k n = filter-append (λ (x : Event). position_of x == k) done (e ∷ []) ∙ ap (λ l. about k done ++ l) (about_other e k [] n)
      ∙ append-nil (about k done)

  pub came_more : may_come stages e ≡ true → HaveCome (one_more stages e) (done ++ e ∷ [])
  came_more may = record {
    positions = subst (λ m. IsTrue (are_below m (done ++ e ∷ []))) (sym (length-set stages p (stage_at stages p + 1)))
        (below (length stages) h.positions within);
    each = λ k q. elim (cases_eq k p) [
      | inl r ↦ subst (λ (j : ℕ). about j (done ++ e ∷ []) ≡ take (stage_at (one_more stages e) j) (events_of j)) (sym r)
          (about_last ∙ ap (λ l. l ++ e ∷ []) (h.each p within) ∙ grown e (stage_at stages p) rank
          ∙ sym (ap (λ (s : ℕ). take s (events_of p)) stage_here))
      | inr n ↦ about_before k (ne_eqb p k (λ x. n (sym x))) ∙ h.each k (omega (arith, length-set stages p (stage_at stages p + 1)))
          ∙ sym (ap (λ (s : ℕ). take s (events_of k)) (stage_there k n))
    ];
    high = λ k q. elim (cases_eq k p) [
      | inl r ↦ (let here : stage_at (one_more stages e) k ≡ stage_at stages p + 1 = ap (stage_at (one_more stages e)) r ∙ stage_here in
          omega (arith, here, rank, rank_low e))
      | inr n ↦ (let old = h.high k (omega (arith, length-set stages p (stage_at stages p + 1))) in omega (arith, stage_there k n, old))
    ];
  } where
    p : ℕ
    p = position_of e

    within : position_of e < length stages
    within = ltb-true (position_of e) (length stages) (left (nat_lt (position_of e) (length stages))
        (stage_at stages (position_of e) == rank_of e) may)

    rank : stage_at stages (position_of e) ≡ rank_of e
    rank = eqb-true (stage_at stages (position_of e)) (rank_of e)
        (right (nat_lt (position_of e) (length stages)) (stage_at stages (position_of e) == rank_of e) may)

    stage_here : stage_at (one_more stages e) (position_of e) ≡ stage_at stages (position_of e) + 1
    stage_here = get_or-set_same stages (position_of e) (stage_at stages (position_of e) + 1) 0 within

    stage_there : (k : ℕ) → k ≢ position_of e → stage_at (one_more stages e) k ≡ stage_at stages k
    stage_there k n = get_or-set_other stages (position_of e) k (stage_at stages (position_of e) + 1) 0 n

  pub misplaced : may_come stages e ≡ false → BeginsLegal (length stages) (done ++ e ∷ []) → ⊥
  misplaced may (rest, legal) = false≢true (sym may ∙ and_from (nat_lt (position_of e) (length stages))
      (stage_at stages (position_of e) == rank_of e) (lt-ltb (position_of e) (length stages) within)
      (eq-eqb (stage_at stages (position_of e)) (rank_of e) rank)) where
        joined : (done ++ e ∷ []) ++ rest ≡ done ++ e ∷ rest
        joined = append_assoc done (e ∷ []) rest

        all_below : IsTrue (are_below (length stages) (e ∷ rest))
        all_below = right (are_below (length stages) done) (are_below (length stages) (e ∷ rest))
            (sym (list_all-append (λ (x : Event). nat_lt (position_of x) (length stages)) done (e ∷ rest))
            ∙ ap (are_below (length stages)) (sym joined) ∙ legal.positions)

        within : position_of e < length stages
        within = ltb-true (position_of e) (length stages) (left (nat_lt (position_of e) (length stages))
            (are_below (length stages) rest) all_below)

        rank : stage_at stages (position_of e) ≡ rank_of e
        rank = rank_there (position_of e) (stage_at stages (position_of e)) e (about (position_of e) rest) (h.high (position_of e) within)
            (ap (λ l. l ++ e ∷ about (position_of e) rest) (sym (h.each (position_of e) within))
            ∙ sym (ap (λ l. about (position_of e) done ++ l) (about_own e rest))
            ∙ sym (filter-append (λ (x : Event). position_of x == position_of e) done (e ∷ rest))
            ∙ ap (about (position_of e)) (sym joined)
            ∙ legal.each (position_of e) within)

-- ---- what is left

abbrev left_of : ℕ → ℕ → List Event
left_of k s = drop s (events_of k)

abbrev all_left : List ℕ → ℕ → List Event
all_left stages zero = []
all_left stages (suc n) = all_left stages n ++ left_of n (stage_at stages n)

drop-nil : {A : Type 0} (s : ℕ) → drop {A = A} s [] ≡ []
drop-nil zero = refl
drop-nil (suc s) = refl

own_left : (k s n : ℕ) → (n == k) ≡ true → about k (left_of n s) ≡ left_of n s
own_left k zero n h = rw h refl
own_left k (suc zero) n h = rw h refl
own_left k (suc (suc zero)) n h = rw h refl
own_left k (suc (suc (suc s))) n h = ap (about k) (drop-nil s) ∙ sym (drop-nil s)

other_left : (k s n : ℕ) → (n == k) ≡ false → about k (left_of n s) ≡ []
other_left k zero n h = rw h refl
other_left k (suc zero) n h = rw h refl
other_left k (suc (suc zero)) n h = rw h refl
other_left k (suc (suc (suc s))) n h = ap (about k) (drop-nil s)

below_left : (m s n : ℕ) → nat_lt n m ≡ true → IsTrue (are_below m (left_of n s))
below_left m zero n h = rw h refl
below_left m (suc zero) n h = rw h refl
below_left m (suc (suc zero)) n h = rw h refl
below_left m (suc (suc (suc s))) n h = ap (are_below m) (drop-nil s)

module _ (stages : List ℕ) where
  none_above : (n k : ℕ) → n ≤ k → about k (all_left stages n) ≡ []
  none_above zero k h = refl
  none_above (suc n) k h =
      filter-append (λ (x : Event). position_of x == k) (all_left stages n) (left_of n (stage_at stages n))
      ∙ ap (λ l. l ++ about k (left_of n (stage_at stages n))) (none_above n k (omega arith))
      ∙ other_left k (stage_at stages n) n (ne_eqb n k (λ x. absurd (omega (arith, x))))

  one_left : (n k : ℕ) → k < n → about k (all_left stages n) ≡ left_of k (stage_at stages k)
  one_left zero k h = absurd (omega arith)
  one_left (suc n) k h =
      filter-append (λ (x : Event). position_of x == k) (all_left stages n) (left_of n (stage_at stages n))
      ∙ elim (cases_eq n k) [
        | inl e ↦ ap (λ l. l ++ about k (left_of n (stage_at stages n))) (none_above n k (omega (arith, e)))
            ∙ own_left k (stage_at stages n) n (eq-eqb n k e) ∙ ap (λ (j : ℕ). left_of j (stage_at stages j)) e
        | inr d ↦ ap (λ l. about k (all_left stages n) ++ l) (other_left k (stage_at stages n) n (ne_eqb n k d))
            ∙ append-nil (about k (all_left stages n)) ∙ one_left n k (omega (arith, d))
      ]

  left_below : (m n : ℕ) → n ≤ m → IsTrue (are_below m (all_left stages n))
  left_below m zero h = refl
  left_below m (suc n) h =
      list_all-append (λ (x : Event). nat_lt (position_of x) m) (all_left stages n) (left_of n (stage_at stages n))
      ∙ both (are_below m (all_left stages n)) (are_below m (left_of n (stage_at stages n))) (left_below m n (omega arith))
      (below_left m (stage_at stages n) n (lt-ltb n m h))

  pub begins : (done : List Event) → HaveCome stages done → BeginsLegal (length stages) done
  begins done h = (
    all_left stages (length stages),
    record {
      positions =
          list_all-append (λ (x : Event). nat_lt (position_of x) (length stages)) done (all_left stages (length stages))
          ∙ both (are_below (length stages) done) (are_below (length stages) (all_left stages (length stages))) h.positions
          (left_below (length stages) (length stages) (omega arith));
      each = λ k q.
          filter-append (λ (x : Event). position_of x == k) done (all_left stages (length stages))
          ∙ (λ i. h.each k q i ++ one_left (length stages) k q i)
          ∙ take-append-drop (stage_at stages k) (events_of k);
    },
  )

-- ---- all came, or not

threes : (stages : List ℕ) → ((k : ℕ) → k < length stages → stage_at stages k ≡ 3) → list_all (λ (s : ℕ). s == 3) stages ≡ true
threes [] h = refl
threes (s ∷ stages) h = both (s == 3) (list_all (λ (x : ℕ). x == 3) stages) (eq-eqb s 3 (h 0 (omega arith)))
    (threes stages (λ k q. h (suc k) (omega arith)))

pub some_missing : (stages : List ℕ) (done : List Event) → HaveCome stages done → list_all (λ (s : ℕ). s == 3) stages ≡ false
    → IsLegal (length stages) done → ⊥
some_missing stages done h f legal = false≢true (sym f ∙ threes stages
    (λ k q. three k (stage_at stages k) (h.high k q) (sym (h.each k q) ∙ legal.each k q)))

-- ---- where a list stops

legal_front : (m k : ℕ) (events : List Event) → IsLegal m events → BeginsLegal m (take k events)
legal_front m k events legal = (drop k events, subst (IsLegal m) (sym (take-append-drop k events)) legal)

pub stops_misplaced : (m : ℕ) (events : List Event) (at : ℕ) → IsMisplaced m events at → StopsAt m events at
stops_misplaced m events at h = record {
  size = omega (arith, h.within);
  illegal = λ legal. h.there (legal_front m (at + 1) events legal);
  before = h.before;
  there = λ q. h.there;
}

pub stops_short : (stages : List ℕ) (events : List Event) → HaveCome stages events → list_all (λ (s : ℕ). s == 3) stages ≡ false
    → StopsAt (length stages) events (length events)
stops_short stages events h f = record {
  size = omega arith;
  illegal = some_missing stages events h f;
  before = subst (BeginsLegal (length stages)) (sym (take-length events)) (begins stages events h);
  there = λ q. absurd (omega (arith, q));
}

-- ---- what lets an event come, and all of them

pub may_within : (stages : List ℕ) (e : Event) → may_come stages e ≡ true → position_of e < length stages
may_within stages e may = ltb-true (position_of e) (length stages)
    (left (nat_lt (position_of e) (length stages)) (stage_at stages (position_of e) == rank_of e) may)

pub may_rank : (stages : List ℕ) (e : Event) → may_come stages e ≡ true → stage_at stages (position_of e) ≡ rank_of e
may_rank stages e may = eqb-true (stage_at stages (position_of e)) (rank_of e)
    (right (nat_lt (position_of e) (length stages)) (stage_at stages (position_of e) == rank_of e) may)

pub all_stages : (stages : List ℕ) (events : List Event) → HaveCome stages events → IsLegal (length stages) events → (k : ℕ)
    → k < length stages → stage_at stages k ≡ 3
all_stages stages events h legal k q = three k (stage_at stages k) (h.high k q) (sym (h.each k q) ∙ legal.each k q)
