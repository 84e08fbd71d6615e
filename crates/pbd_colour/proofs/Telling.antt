-- Sets of residues tell what no pair leads to.
use Rattle.std.proofs.Common.{◌≡◌, ℕ, zero, suc, ◌+◌, ◌<◌, ◌≤◌, ◌%◌, ◌&&◌, ◌||◌, Bool, true, false, eqb, List, length, refl, sym, ap, ◌∙◌}
use Rattle.std.proofs.Common.{arith, inl, inr}
use Rattle.std.proofs.lemmas.Bool.{cases_eq, eqb-true, and_parts, eq-eqb, false≢true, or_right, or_left}
use Rattle.pbd_world.specs.Colours.{pair_at, live_at, some_below, joins, joined}
use Rattle.pbd_colour.specs.Used.{has, AreSmall}
use Rattle.pbd_colour.specs.Toward.{AreTold}

-- the first i pairs are told
pub record AreFirstTold (pairs : List (ℕ × ℕ)) (sets : List ℕ) (i : ℕ) : Type 0 where
  pub small : AreSmall sets
  pub there : (k : ℕ) → k < i → has sets (pair_at pairs k).0 ((pair_at pairs k).1 % 54) ≡ true
  pub back : (k : ℕ) → k < i → has sets (pair_at pairs k).1 ((pair_at pairs k).0 % 54) ≡ true

module _ (pairs : List (ℕ × ℕ)) (old once new : List ℕ) (i : ℕ)
    (first : (q d : ℕ) → has once q d ≡ (has old q d || (eqb (pair_at pairs i).0 q && eqb ((pair_at pairs i).1 % 54) d)))
    (second : (q d : ℕ) → has new q d ≡ (has once q d || (eqb (pair_at pairs i).1 q && eqb ((pair_at pairs i).0 % 54) d))) where
  both : (a b : ℕ) → (eqb a a && eqb b b) ≡ true
  both a b = rw (eq-eqb a a refl, eq-eqb b b refl) refl

  kept : (q d : ℕ) → has old q d ≡ true → has new q d ≡ true
  kept q d e = second q d ∙ or_left (has once q d) (eqb (pair_at pairs i).1 q && eqb ((pair_at pairs i).0 % 54) d)
      (first q d ∙ or_left (has old q d) (eqb (pair_at pairs i).0 q && eqb ((pair_at pairs i).1 % 54) d) e)

  own_there : has new (pair_at pairs i).0 ((pair_at pairs i).1 % 54) ≡ true
  own_there = let a = (pair_at pairs i).0 in let b = (pair_at pairs i).1 % 54 in
      second a b ∙ or_left (has once a b) (eqb (pair_at pairs i).1 a && eqb ((pair_at pairs i).0 % 54) b)
      (first a b ∙ or_right (has old a b) (eqb a a && eqb b b) (both a b))

  own_back : has new (pair_at pairs i).1 ((pair_at pairs i).0 % 54) ≡ true
  own_back = let a = (pair_at pairs i).1 in let b = (pair_at pairs i).0 % 54 in
      second a b ∙ or_right (has once a b) (eqb a a && eqb b b) (both a b)

  pub AreFirstTold-more : AreFirstTold pairs old i → AreSmall new → AreFirstTold pairs new (i + 1)
  AreFirstTold-more h small = record {
    small = small;
    there = λ k l. elim (cases_eq k i) [
      | inl e ↦ ap (λ (n : ℕ). has new (pair_at pairs n).0 ((pair_at pairs n).1 % 54)) e ∙ own_there
      | inr ne ↦ kept (pair_at pairs k).0 ((pair_at pairs k).1 % 54) (h.there k (omega (arith, l, ne)))
    ];
    back = λ k l. elim (cases_eq k i) [
      | inl e ↦ ap (λ (n : ℕ). has new (pair_at pairs n).1 ((pair_at pairs n).0 % 54)) e ∙ own_back
      | inr ne ↦ kept (pair_at pairs k).1 ((pair_at pairs k).0 % 54) (h.back k (omega (arith, l, ne)))
    ];
  }

-- what no set has is not joined
module _ (pairs : List (ℕ × ℕ)) (live : List Bool) (sets : List ℕ) (i j : ℕ) (told : AreTold pairs sets)
    (none : has sets i (j % 54) ≡ false) where
  apart : (k : ℕ) → k < length pairs → (a b c : Bool) → live_at live k ≡ a
      → (eqb (pair_at pairs k).0 i && eqb (pair_at pairs k).1 j) ≡ b → (eqb (pair_at pairs k).0 j && eqb (pair_at pairs k).1 i) ≡ c
      → (a && (b || c)) ≡ false
  apart k l false b c e f g = refl
  apart k l true false false e f g = refl
  apart k l true true c e f g = absurd (
      let p = and_parts (eqb (pair_at pairs k).0 i) (eqb (pair_at pairs k).1 j) f in
      let same : has sets (pair_at pairs k).0 ((pair_at pairs k).1 % 54)
      ≡ has sets i (j % 54) = rw (eqb-true (pair_at pairs k).0 i p.0, eqb-true (pair_at pairs k).1 j p.1) refl in
      false≢true (sym none ∙ sym same ∙ (told k l).0)
      )
  apart k l true false true e f g = absurd (
      let p = and_parts (eqb (pair_at pairs k).0 j) (eqb (pair_at pairs k).1 i) g in
      let same : has sets (pair_at pairs k).1 ((pair_at pairs k).0 % 54)
      ≡ has sets i (j % 54) = rw (eqb-true (pair_at pairs k).0 j p.0, eqb-true (pair_at pairs k).1 i p.1) refl in
      false≢true (sym none ∙ sym same ∙ (told k l).1)
      )

  none_below : (n : ℕ) → n ≤ length pairs → some_below (λ k. live_at live k && joins (pair_at pairs k) i j) n ≡ false
  none_below zero l = refl
  none_below (suc n) l = rw (apart n (omega (arith, l)) (live_at live n) _ _ refl refl refl) (none_below n (omega (arith, l)))

  pub not_joined : false ≡ joined pairs live i j
  not_joined = sym (none_below (length pairs) (omega arith))

pub AreFirstTold-all : (pairs : List (ℕ × ℕ)) (sets : List ℕ) (i : ℕ) → length pairs ≤ i → AreFirstTold pairs sets i → AreTold pairs sets
AreFirstTold-all pairs sets i le h k l = (h.there k (omega (arith, l, le)), h.back k (omega (arith, l, le)))
