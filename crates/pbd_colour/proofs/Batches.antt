-- Batches: what they hold, and that they make the order.
use Rattle.std.proofs.Common.{◌≡◌, ℕ, zero, suc, ◌+◌, ◌<◌, ◌&&◌, Bool, true, false, cond, eqb, List, [], ◌∷◌, ◌++◌, get_or, length}
use Rattle.std.proofs.Common.{refl, sym, ◌∙◌, arith, inl, inr}
use Rattle.std.proofs.lemmas.Bool.{cases_lt, cases_Bool, eqb-true, eq-eqb, ne_eqb, cases_eq, and_parts, and_from}
use Rattle.std.proofs.lemmas.List.FromFn.{length-range_with_len, get_or-range_with_len}
use Rattle.std.proofs.lemmas.List.Kept.{IsStrictlyIncreasing-filter}
use Rattle.std.specs.List.{range_with_len, filter, flat_map}
use Rattle.std.specs.List.Sorted.{IsStrictlyIncreasing}
use Rattle.pbd_world.specs.Colours.{pair_at, live_at, share, colour, order}
use Rattle.pbd_colour.specs.Pairs.{batch_of}
use Rattle.pbd_colour.specs.Coloured.{by_colour}
use Rattle.pbd_colour.specs.Batch.{AreApart, AreLive}
use Rattle.pbd_world.proofs.GreedyLemmas.{colour-is_greedy, or_swap}
use Rattle.pbd_colour.proofs.Gathering.{by_colour_more, order_is}
use Rattle.pbd_colour.proofs.Holding.{rising_at}
use Rattle.pbd_world.proofs.Ranges.{range_increases}

-- what is kept passes, and has what all had
filter_at : (p : ℕ → Bool) (n : ℕ) (xs : List ℕ) → ((k : ℕ) → k < length xs → get_or xs k 0 < n) → (k : ℕ) → k < length (filter p xs)
    → (p (get_or (filter p xs) k 0) ≡ true) × (get_or (filter p xs) k 0 < n)
filter_at p n [] h = λ k l. absurd (omega arith)
filter_at p n (x ∷ xs) h = kept_at (p x) refl (filter_at p n xs (λ k l. h (suc k) (omega arith)))
  where
    kept_at : (b : Bool) → p x ≡ b → ((k : ℕ) → k < length (filter p xs)
        → (p (get_or (filter p xs) k 0) ≡ true) × (get_or (filter p xs) k 0 < n))
        → (k : ℕ) → k < length (cond b (x ∷ filter p xs) (filter p xs))
        → (p (get_or (cond b (x ∷ filter p xs) (filter p xs)) k 0) ≡ true) × (get_or (cond b (x ∷ filter p xs) (filter p xs)) k 0 < n)
    kept_at true e rest zero l = (e, h 0 (omega arith))
    kept_at true e rest (suc k) l = rest k (omega arith)
    kept_at false e rest k l = rest k l

range_below : (n k : ℕ) → k < length (range_with_len 0 n) → get_or (range_with_len 0 n) k 0 < n
range_below n k l = let s = length-range_with_len 0 n in omega (arith, l, s, get_or-range_with_len 0 n k 0 (omega (arith, l, s)))

eqb_turn : (a b : ℕ) → eqb a b ≡ eqb b a
eqb_turn a b = elim (cases_eq a b) [
  | inl e ↦ eq-eqb a b e ∙ sym (eq-eqb b a (sym e))
  | inr ne ↦ ne_eqb a b ne ∙ sym (ne_eqb b a (λ e. ne (sym e)))
]

pub share_turn : (a b : ℕ × ℕ) → share a b ≡ share b a
share_turn a b = rw (eqb_turn a.0 b.0, eqb_turn a.1 b.0, eqb_turn a.0 b.1, eqb_turn a.1 b.1)
    (or_swap (eqb b.0 a.0) (eqb b.0 a.1) (eqb b.1 a.0) (eqb b.1 a.1))

module _ (pairs : List (ℕ × ℕ)) (live : List Bool) (c : ℕ) where
  in_batch : (k : ℕ) → k < length (batch_of pairs live c)
      → (live_at live (get_or (batch_of pairs live c) k 0) ≡ true) × (colour pairs live (get_or (batch_of pairs live c) k 0) ≡ c)
      × (get_or (batch_of pairs live c) k 0 < length pairs)
  in_batch k l =
      let f = filter_at (λ i. live_at live i && eqb (colour pairs live i) c) (length pairs) (range_with_len 0 (length pairs))
      (range_below (length pairs)) k l in
      let b = and_parts (live_at live (get_or (batch_of pairs live c) k 0))
      (eqb (colour pairs live (get_or (batch_of pairs live c) k 0)) c) f.0 in
      (b.0, eqb-true _ _ b.1, f.1)

  rises : IsStrictlyIncreasing (batch_of pairs live c)
  rises = IsStrictlyIncreasing-filter (λ i. live_at live i && eqb (colour pairs live i) c) (range_with_len 0 (length pairs))
      (range_increases (length pairs))

  before_apart : c < 63 → (j k : ℕ) → j < k → k < length (batch_of pairs live c)
      → share (pair_at pairs (get_or (batch_of pairs live c) j 0)) (pair_at pairs (get_or (batch_of pairs live c) k 0)) ≡ false
  before_apart below j k l lk =
      let x : ℕ = get_or (batch_of pairs live c) j 0 in let y : ℕ = get_or (batch_of pairs live c) k 0 in
      let hx = in_batch j (omega arith) in let hy = in_batch k lk in
      let g = colour-is_greedy pairs live y in
      elim (cases_Bool (share (pair_at pairs x) (pair_at pairs y))) [
        | inl t ↦ absurd (g.free (omega (arith, hy.1, below)) x (rising_at (batch_of pairs live c) rises j k l lk) (and_from _ _ hx.0 t)
            (hx.1 ∙ sym hy.1))
        | inr f ↦ f
      ]

  pub batch-live : AreLive pairs live (batch_of pairs live c)
  batch-live = record {
    within = λ k l. (in_batch k l).2;
    alive = λ k l. (in_batch k l).0;
    rising = rises;
  }

  pub batch-apart : c < 63 → AreApart pairs (batch_of pairs live c)
  batch-apart below j k lj lk ne = elim (cases_lt j k) [
    | inl l ↦ before_apart below j k l lk
    | inr l ↦ share_turn (pair_at pairs (get_or (batch_of pairs live c) j 0)) (pair_at pairs (get_or (batch_of pairs live c) k 0))
        ∙ before_apart below k j (omega (arith, l, ne)) lj
  ]

batches-joined : (pairs : List (ℕ × ℕ)) (live : List Bool)
    → by_colour live (colour pairs live) (length pairs) 64 ≡ flat_map (batch_of pairs live) (range_with_len 0 63) ++ batch_of pairs live 63
unfolding by_colour
batches-joined pairs live = by_colour_more live (colour pairs live) (length pairs) 63

pub order-batches : (pairs : List (ℕ × ℕ)) (live : List Bool)
    → order pairs live ≡ flat_map (batch_of pairs live) (range_with_len 0 63) ++ batch_of pairs live 63
order-batches pairs live = sym (order_is pairs live) ∙ batches-joined pairs live
