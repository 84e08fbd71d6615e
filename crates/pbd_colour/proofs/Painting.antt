-- Colours from scratch: the sets of the first n pairs tell the colour of the next.
use Rattle.std.proofs.Common.{◌≡◌, ℕ, ◌+◌, ◌<◌, ◌≤◌, ◌&&◌, ◌||◌, Bool, true, false, eqb, List, get_or, set, length, refl, sym, ap, ◌∙◌}
use Rattle.std.proofs.Common.{arith, inl, inr, add-one}
use Rattle.std.proofs.lemmas.Bool.{cases_eq, ne_eqb}
use Rattle.std.proofs.lemmas.List.{get_or-set_same, get_or-set_other}
use Rattle.pbd_colour.specs.Used.{has, AreSmall}
use Rattle.pbd_world.specs.Colours.{pair_at, live_at, is_end, some_below, least_free, colour}
use Rattle.pbd_world.proofs.GreedyLemmas.{colour_is, least_free-agree, some_below-or}

pub none_or : (a b : Bool) → ((a && false) || b) ≡ b
none_or true b = refl
none_or false b = refl

-- a live pair before n is_end the particle and has colour d
abbrev pub marks : List (ℕ × ℕ) → List Bool → ℕ → ℕ → ℕ → Bool
marks pairs live n p d = some_below (λ j. (live_at live j && is_end (pair_at pairs j) p) && eqb (colour pairs live j) d) n

-- the first n pairs have their colours, and the sets are those of the first n pairs
pub record IsPainted (pairs : List (ℕ × ℕ)) (live : List Bool) (used colours : List ℕ) (n : ℕ) : Type 0 where
  pub painted : (i : ℕ) → i < n → get_or colours i 0 ≡ colour pairs live i
  pub sets : (p d : ℕ) → p < length used → d < 63 → has used p d ≡ marks pairs live n p d
  pub small : AreSmall used

pub spread : (l x y e : Bool) → ((l && (x || y)) && e) ≡ (((l && x) && e) || ((l && y) && e))
spread false x y e = refl
spread true true true true = refl
spread true true true false = refl
spread true true false true = refl
spread true true false false = refl
spread true false y e = refl

module _ {pairs : List (ℕ × ℕ)} {live : List Bool} {used colours : List ℕ} {n : ℕ} (h : IsPainted pairs live used colours n) where
  -- the least colour in neither end's set is the colour of pair n
  pub next_is : (pair_at pairs n).0 < length used → (pair_at pairs n).1 < length used
      → least_free (λ d. has used (pair_at pairs n).0 d || has used (pair_at pairs n).1 d) ≡ colour pairs live n
  next_is la lb = least_free-agree _ _ (λ d l.
      ap (λ (b : Bool). b || has used (pair_at pairs n).1 d) (h.sets _ d la l)
      ∙ ap (λ (b : Bool). marks pairs live n (pair_at pairs n).0 d || b) (h.sets _ d lb l)
      ∙ sym (some_below-or _ _ _ n (λ j m. spread (live_at live j) (is_end (pair_at pairs j) (pair_at pairs n).0)
      (is_end (pair_at pairs j) (pair_at pairs n).1) (eqb (colour pairs live j) d))))
      ∙ sym (colour_is pairs live n)

  painted_more : (c : ℕ) → n < length colours → c ≡ colour pairs live n → (i : ℕ) → i < n + 1
      → get_or (set colours n c) i 0 ≡ colour pairs live i
  painted_more c ln e i l = elim (cases_eq i n) [
    | inl same ↦ rw (same, get_or-set_same colours n c 0 ln) e
    | inr other ↦ rw (get_or-set_other colours n i c 0 other) (h.painted i (omega arith))
  ]

  -- pair n isn't live
  pub IsPainted-more_dead : (c : ℕ) → n < length colours → c ≡ colour pairs live n → live_at live n ≡ false
      → IsPainted pairs live used (set colours n c) (n + 1)
  IsPainted-more_dead c ln e dead = record {
    painted = painted_more c ln e;
    sets = λ p d lp ld. h.sets p d lp ld ∙ sym (rw (add-one, dead) refl);
    small = h.small;
  }

  -- pair n is serial
  pub IsPainted-more_serial : (c : ℕ) → n < length colours → c ≡ colour pairs live n → 63 ≤ c
      → IsPainted pairs live used (set colours n c) (n + 1)
  IsPainted-more_serial c ln e serial = record {
    painted = painted_more c ln e;
    sets = λ p d lp ld. h.sets p d lp ld ∙ sym (rw (add-one, ← e, ne_eqb c d (λ s. absurd (omega arith)))
        (none_or (live_at live n && is_end (pair_at pairs n) p) _));
    small = h.small;
  }

  -- pair n is live, and its colour went into the sets of both ends
  pub IsPainted-more_marked : (c : ℕ) (first second : List ℕ) → n < length colours → c ≡ colour pairs live n → live_at live n ≡ true
      → length second ≡ length used
      → ((q d : ℕ) → has first q d ≡ (has used q d || (eqb (pair_at pairs n).0 q && eqb c d)))
      → ((q d : ℕ) → has second q d ≡ (has first q d || (eqb (pair_at pairs n).1 q && eqb c d)))
      → AreSmall second → IsPainted pairs live second (set colours n c) (n + 1)
  IsPainted-more_marked c first second ln e alive len one two small = record {
    painted = painted_more c ln e;
    sets = λ p d lp ld. two p d ∙ rw (one p d, h.sets p d (omega arith) ld)
        (sym (rw (add-one, alive, ← e) (put_first (eqb (pair_at pairs n).0 p) (eqb (pair_at pairs n).1 p) (eqb c d)
        (marks pairs live n p d))));
    small = small;
  }
    where
      put_first : (x y e m : Bool) → (((x || y) && e) || m) ≡ ((m || (x && e)) || (y && e))
      put_first true true true true = refl
      put_first true true true false = refl
      put_first true true false true = refl
      put_first true true false false = refl
      put_first true false true true = refl
      put_first true false true false = refl
      put_first true false false true = refl
      put_first true false false false = refl
      put_first false true true true = refl
      put_first false true true false = refl
      put_first false true false true = refl
      put_first false true false false = refl
      put_first false false e true = refl
      put_first false false e false = refl
