-- A walk along a chain that keeps what passes.
use Rattle.std.proofs.Common.{◌≡◌, ℕ, zero, suc, ◌+◌, ◌-◌, ◌/◌, ◌%◌, map, ◌<◌, ◌≤◌, Bool, true, false, cond, List, [], ◌∷◌, ◌++◌, length}
use Rattle.std.proofs.Common.{take, Option, Some, slice_get, refl, sym, ap, ◌∙◌, arith, add-one, length-append, append_assoc}
use Rattle.std.proofs.lemmas.List.{take_all, append-nil, map-append}
use Rattle.std.proofs.lemmas.List.Elements.{filter-append}
use Rattle.std.proofs.lemmas.List.Concat.{flat_map-append}
use Rattle.std.specs.List.{filter, flat_map, range_with_len}
use Rattle.pbd_world.specs.Room.{Roomed}
use Rattle.pbd_chain.proofs.Walks.{take_get}
use Rattle.pbd_num.specs.declared.Vec3.{Vec3}
use Rattle.pbd_grid.specs.declared.lookup.GridCell.{GridCell}
use Rattle.pbd_grid.specs.Blocks.{IsFalling, beside, block_part, picked, all_picked}
use Rattle.pbd_grid.proofs.Finding.{range_more}

filter_take_le : (p : ℕ → Bool) (xs : List ℕ) (k : ℕ) → length (filter p (take k xs)) ≤ length (filter p xs)
filter_take_le p [] zero = omega arith
filter_take_le p [] (suc k) = omega arith
filter_take_le p (x ∷ xs) zero = omega arith
filter_take_le p (x ∷ xs) (suc k) = kept_le (p x) (filter_take_le p xs k)
  where
    kept_le : (b : Bool) → length (filter p (take k xs)) ≤ length (filter p xs)
        → length (cond b (x ∷ filter p (take k xs)) (filter p (take k xs))) ≤ length (cond b (x ∷ filter p xs) (filter p xs))
    kept_le true h = omega (arith, h)
    kept_le false h = h

-- the first k items of the chain were looked at
pub record IsKept (test : ℕ → Bool) (chain : List ℕ) (at : Option ℕ) (k : ℕ) (old now : Roomed ℕ) : Type 0 where
  pub next : at ≡ slice_get chain k
  pub entries : now ≡ record old { entries = old.entries ++ filter test (take k chain) }

pub IsKept-none : (test : ℕ → Bool) (chain : List ℕ) (at : Option ℕ) (old : Roomed ℕ) → at ≡ slice_get chain 0 → IsKept test chain at 0 old old
IsKept-none test chain at old e = record {
  next = e;
  entries = ap (λ (xs : List ℕ). record old { entries = xs }) (sym (append-nil old.entries));
}

module _ {test : ℕ → Bool} {chain : List ℕ} {at : Option ℕ} {k : ℕ} {old now : Roomed ℕ} (h : IsKept test chain at k old now) where
  one_more : (x : ℕ) → at ≡ Some x → filter test (take (k + 1) chain) ≡ filter test (take k chain) ++ cond (test x) (x ∷ []) []
  one_more x e = ap (λ (n : ℕ). filter test (take n chain)) (add-one k) ∙ ap (filter test) (take_get chain k x (sym h.next ∙ e))
      ∙ filter-append test (take k chain) (x ∷ [])

  pub kept_fits : (x : ℕ) (b : Bool) → at ≡ Some x → b ≡ test x → length old.entries + length (filter test chain) ≤ old.room
      → length now.entries + length (cond b (x ∷ []) []) ≤ now.room
  kept_fits x b e is fits =
      let same : length (cond b (x ∷ []) []) ≡ length (cond (test x) (x ∷ []) []) = ap (λ (c : Bool). length (cond c (x ∷ []) [])) is in
      omega (
        arith,
        fits,
        same,
        ap (λ (r : Roomed ℕ). r.room) h.entries,
        ap (λ (r : Roomed ℕ). length r.entries) h.entries,
        length-append old.entries (filter test (take k chain)),
        ap length (one_more x e),
        length-append (filter test (take k chain)) (cond (test x) (x ∷ []) []),
        filter_take_le test chain (k + 1),
      )

  pub IsKept-more : (x : ℕ) (b : Bool) (new : Roomed ℕ) (next : Option ℕ) → at ≡ Some x → b ≡ test x
      → new ≡ record now { entries = now.entries ++ cond b (x ∷ []) [] } → next ≡ slice_get chain (k + 1)
      → IsKept test chain next (k + 1) old new
  IsKept-more x b new next e is push after = record {
    next = after;
    entries = push ∙ ap (λ (r : Roomed ℕ). record r { entries = r.entries ++ cond b (x ∷ []) [] }) h.entries
        ∙ ap (λ (xs : List ℕ). record old { entries = xs }) (append_assoc old.entries (filter test (take k chain)) (cond b (x ∷ []) [])
        ∙ ap (λ (xs : List ℕ). old.entries ++ xs) (ap (λ (c : Bool). filter test (take k chain) ++ cond c (x ∷ []) []) is
        ∙ sym (one_more x e)));
  }

  pub IsKept-all : length chain ≤ k → now ≡ record old { entries = old.entries ++ filter test chain }
  IsKept-all l = h.entries ∙ ap (λ (xs : List ℕ). record old { entries = old.entries ++ filter test xs }) (take_all k chain l)

-- ---- an end before that of a falling chain
-- where no number up to i passes
module _ (test : ℕ → Bool) (i : ℕ) (fails : (x : ℕ) → x ≤ i → test x ≡ false) where
  none_behind : (high : ℕ) (xs : List ℕ) → high ≤ i + 1 → IsFalling high xs → filter test xs ≡ []
  none_behind high [] le h = refl
  none_behind high (x ∷ xs) le h = rw (fails x (omega (arith, le, h.0))) (none_behind x xs (omega (arith, le, h.0)) h.1)

  pub all_before : (high : ℕ) (xs : List ℕ) (k j : ℕ) → IsFalling high xs → slice_get xs k ≡ Some j → j ≤ i
      → filter test (take k xs) ≡ filter test xs
  all_before high [] k j h e le = absurd (let no : ⊥ = cc in no)
  all_before high (x ∷ xs) zero j h e le = let s : x ≡ j = cc in
      sym (none_behind (x + 1) (x ∷ xs) (omega (arith, s, le)) (omega arith, h.1))
  all_before high (x ∷ xs) (suc k) j h e le = ap (λ (ys : List ℕ). cond (test x) (x ∷ ys) ys) (all_before x xs k j h.1 e le)

  pub IsKept-behind : {chain : List ℕ} {at : Option ℕ} {k : ℕ} {old now : Roomed ℕ} → IsKept test chain at k old now → (high j : ℕ)
      → IsFalling high chain → at ≡ Some j → j ≤ i
      → now ≡ record old { entries = old.entries ++ filter test chain }
  IsKept-behind {chain = chain} {k = k} {old = old} h high j falls e le = h.entries
      ∙ ap (λ (xs : List ℕ). record old { entries = old.entries ++ xs }) (all_before high chain k j falls (sym h.next ∙ e) le)

-- ---- look-ups of several cells
module _ (chains : List (List ℕ)) (places : List Vec3) (t : ℕ) (test : ℕ → ℕ → Bool) (i : ℕ) (from : GridCell) where
  -- what the first k cells of the block give
  abbrev pub parts : ℕ → List ℕ
  parts k = all_picked chains places t test i (block_part from k)

  abbrev cell_of : ℕ → GridCell
  cell_of n = beside from (n % 2) (n / 2 % 2) (n / 4)

  parts_more : (k : ℕ) → parts (k + 1) ≡ parts k ++ picked chains places t test i (cell_of k)
  unfolding all_picked
  parts_more k = ap (λ (ns : List ℕ). flat_map (picked chains places t test i) (map cell_of ns)) (range_more 0 k k (omega arith))
      ∙ ap (flat_map (picked chains places t test i)) (map-append cell_of (range_with_len 0 k) (k ∷ []))
      ∙ flat_map-append (picked chains places t test i) (map cell_of (range_with_len 0 k)) (cell_of k ∷ [])
      ∙ ap (λ (xs : List ℕ). parts k ++ xs) (append-nil (picked chains places t test i (cell_of k)))

  parts_le : (k m : ℕ) → length (parts k) ≤ length (parts (k + m))
  parts_le k zero = let e : length (parts (k + zero)) ≡ length (parts k) = ap (λ (n : ℕ). length (parts n)) (omega arith) in
      omega (arith, e)
  parts_le k (suc m) = let e : length (parts (k + suc m)) ≡ length (parts (k + m + 1)) = ap (λ (n : ℕ). length (parts n)) (omega arith) in
      omega (
        arith,
        e,
        parts_le k m,
        ap length (parts_more (k + m)),
        length-append (parts (k + m)) (picked chains places t test i (cell_of (k + m))),
      )

  -- the first k cells were looked up
  pub record IsRound (old now : Roomed ℕ) (k : ℕ) : Type 0 where
    pub entries : now ≡ record old { entries = old.entries ++ parts k }

  pub IsRound-none : (old : Roomed ℕ) → IsRound old old 0
  unfolding all_picked
  IsRound-none old = record { entries = ap (λ (xs : List ℕ). record old { entries = xs }) (sym (append-nil old.entries)) }

  module _ {old now : Roomed ℕ} {k : ℕ} (h : IsRound old now k) where
    pub round_fits : k < 8 → length old.entries + length (parts 8) ≤ old.room → (c : GridCell) → c ≡ cell_of k
        → length now.entries + length (picked chains places t test i c) ≤ now.room
    round_fits l fits c is =
        let last : k + 1 + (8 - (k + 1)) ≡ 8 = omega arith in
        let whole : length (parts (k + 1 + (8 - (k + 1)))) ≡ length (parts 8) = ap (λ (n : ℕ). length (parts n)) last in
        let same : length (picked chains places t test i c) ≡ length (picked chains places t test i (cell_of k)) =
        ap (λ (d : GridCell). length (picked chains places t test i d)) is in
        omega (
          arith,
          fits,
          whole,
          same,
          parts_le (k + 1) (8 - (k + 1)),
          ap length (parts_more k),
          length-append (parts k) (picked chains places t test i (cell_of k)),
          ap (λ (r : Roomed ℕ). r.room) h.entries,
          ap (λ (r : Roomed ℕ). length r.entries) h.entries,
          length-append old.entries (parts k),
        )

    pub IsRound-more : (new : Roomed ℕ) (c : GridCell) → c ≡ cell_of k
        → new ≡ record now { entries = now.entries ++ picked chains places t test i c } → IsRound old new (k + 1)
    IsRound-more new c is push = record {
      entries = push ∙ ap (λ (r : Roomed ℕ). record r { entries = r.entries ++ picked chains places t test i c }) h.entries
          ∙ ap (λ (xs : List ℕ). record old { entries = xs }) (append_assoc old.entries (parts k) (picked chains places t test i c)
          ∙ ap (λ (xs : List ℕ). old.entries ++ xs) (ap (λ (d : GridCell). parts k ++ picked chains places t test i d) is
          ∙ sym (parts_more k)));
    }
