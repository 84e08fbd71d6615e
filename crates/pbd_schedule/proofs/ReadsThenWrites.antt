-- All reads, then all writes of first ends, then all writes of second ends are legal.
use Rattle.std.proofs.Common.{◌≡◌, ◌≢◌, ℕ, zero, suc, ◌+◌, ◌<◌, ◌≤◌, ◌==◌, List, [], ◌∷◌, ◌++◌, map, IsTrue, Bool, cond}
use Rattle.std.proofs.Common.{nat_lt, refl, sym, ◌∙◌, ap, arith, inl, inr}
use Rattle.std.specs.List.{range_with_len}
use Rattle.std.proofs.lemmas.Bool.{lt-ltb, eq-eqb, ne_eqb, cases_eq}
use Rattle.std.proofs.lemmas.List.Elements.{filter-append}
use Rattle.std.proofs.lemmas.List.Folds.{list_all-append}
use Rattle.pbd_schedule.specs.declared.event.Event.{Event}
use Rattle.pbd_schedule.specs.declared.event.Event.TheVariants.{Read, WriteA, WriteB}
use Rattle.pbd_schedule.specs.Legal.{position_of, are_below, about, IsLegal, reads_then_writes}
use Rattle.pbd_schedule.proofs.Legality.{both}

-- one event of each bond
module _ (F : ℕ → Event) (own : (k : ℕ) → position_of (F k) ≡ k) where
  skips : (k a : ℕ) (es : List Event) → a ≢ k → about k (F a ∷ es) ≡ about k es
  skips k a es d = ap (λ (b : Bool). cond b (F a ∷ about k es) (about k es)) (ne_eqb (position_of (F a)) k (λ x. d (sym (own a) ∙ x)))

  none_of : (k a n : ℕ) → k < a → about k (map F (range_with_len a n)) ≡ []
  none_of k a zero h = refl
  none_of k a (suc n) h = skips k a (map F (range_with_len (a + 1) n)) (λ x. absurd (omega (arith, x, h)))
      ∙ none_of k (a + 1) n (omega (arith, h))

  pub one_of : (k a n : ℕ) → a ≤ k → k < a + n → about k (map F (range_with_len a n)) ≡ F k ∷ []
  one_of k a zero h q = absurd (omega (arith, h, q))
  one_of k a (suc n) h q = elim (cases_eq a k) [
    | inl e ↦ (
        ap (λ (b : Bool). cond b (F a ∷ about k (map F (range_with_len (a + 1) n))) (about k (map F (range_with_len (a + 1) n))))
        (eq-eqb (position_of (F a)) k (own a ∙ e))
        ∙ ap (λ (l : List Event). F a ∷ l) (none_of k (a + 1) n (omega (arith, e)))
        ∙ ap (λ (j : ℕ). F j ∷ []) e)
    | inr d ↦ skips k a (map F (range_with_len (a + 1) n)) d ∙ one_of k (a + 1) n (omega (arith, h, d)) (omega (arith, q))
  ]

  pub all_below : (m a n : ℕ) → a + n ≤ m → IsTrue (are_below m (map F (range_with_len a n)))
  all_below m a zero h = refl
  all_below m a (suc n) h = both (nat_lt (position_of (F a)) m) (are_below m (map F (range_with_len (a + 1) n)))
      (lt-ltb (position_of (F a)) m (omega (arith, own a, h))) (all_below m (a + 1) n (omega (arith, h)))

joined_below : (m : ℕ) (xs ys : List Event) → IsTrue (are_below m xs) → IsTrue (are_below m ys) → IsTrue (are_below m (xs ++ ys))
joined_below m xs ys h k = list_all-append (λ (e : Event). nat_lt (position_of e) m) xs ys ∙ both (are_below m xs) (are_below m ys) h k

pub reads_then_writes_legal : (m : ℕ) → IsLegal m (reads_then_writes m)
reads_then_writes_legal m = record {
  positions = joined_below m reads (firsts ++ seconds) (all_below Read (λ k. refl) m 0 m (omega arith))
      (joined_below m firsts seconds (all_below WriteA (λ k. refl) m 0 m (omega arith)) (all_below WriteB (λ k. refl) m 0 m (omega arith)));
  each = λ k q.
      filter-append (λ (e : Event). position_of e == k) reads (firsts ++ seconds)
      ∙ ap (λ (l : List Event). about k reads ++ l) (filter-append (λ (e : Event). position_of e == k) firsts seconds)
      ∙ (λ i. one_of Read (λ j. refl) k 0 m (omega arith) (omega (arith, q)) i
      ++ (one_of WriteA (λ j. refl) k 0 m (omega arith) (omega (arith, q)) i
      ++ one_of WriteB (λ j. refl) k 0 m (omega arith) (omega (arith, q)) i));
} where
  reads : List Event
  reads = map Read (range_with_len 0 m)

  firsts : List Event
  firsts = map WriteA (range_with_len 0 m)

  seconds : List Event
  seconds = map WriteB (range_with_len 0 m)
