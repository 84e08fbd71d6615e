-- Near pairs row by row.
use Rattle.std.proofs.Common.{◌≡◌, ℕ, zero, suc, ◌+◌, ◌-◌, ◌<◌, ◌≤◌, ◌&&◌, Bool, cond, ℤ, List, [], ◌∷◌, ◌++◌, length, map, refl, sym, ap}
use Rattle.std.proofs.Common.{◌∙◌, arith, add-one, length-append}
use Rattle.std.proofs.lemmas.List.{append-nil, map-append}
use Rattle.std.proofs.lemmas.List.Concat.{flat_map-append}
use Rattle.std.proofs.lemmas.List.Elements.{filter-append}
use Rattle.std.specs.List.{range_with_len, flat_map, filter}
use Rattle.pbd_world.specs.Room.{Roomed}
use Rattle.pbd_num.specs.declared.Vec3.{Vec3}
use Rattle.pbd_world.specs.Contacts.{row}
use Rattle.pbd_grid.specs.Near.{place_at, is_near, near_pairs}
use Rattle.pbd_world.proofs.Ranges.{range_push}

pub range_more : (a n j : ℕ) → j ≡ a + n → range_with_len a (n + 1) ≡ range_with_len a n ++ j ∷ []
range_more a n j e = ap (range_with_len a) (add-one n) ∙ range_push a n ∙ ap (λ (x : ℕ). range_with_len a n ++ x ∷ []) (sym e)

abbrev pub keeps : List Vec3 → ℤ → (ℕ → ℕ → Bool) → ℕ × ℕ → Bool
keeps places t test p = is_near t (place_at places p.0) (place_at places p.1) && test p.0 p.1

module _ (places : List Vec3) (t : ℤ) (test : ℕ → ℕ → Bool) where
  -- what is kept of the rows before row i, and of the first m pairs of row i
  abbrev pub rows : ℕ → List (ℕ × ℕ)
  rows i = filter (keeps places t test) (flat_map (row (length places)) (range_with_len 0 i))

  abbrev pub part : ℕ → ℕ → List (ℕ × ℕ)
  part i m = filter (keeps places t test) (map (λ j. (i, j)) (range_with_len (i + 1) m))

  part_more : (i m j : ℕ) → j ≡ i + 1 + m → part i (m + 1) ≡ part i m ++ cond (keeps places t test (i, j)) ((i, j) ∷ []) []
  part_more i m j e = ap (λ (xs : List ℕ). filter (keeps places t test) (map (λ k. (i, k)) xs)) (range_more (i + 1) m j e)
      ∙ ap (filter (keeps places t test)) (map-append (λ k. (i, k)) (range_with_len (i + 1) m) (j ∷ []))
      ∙ filter-append (keeps places t test) (map (λ k. (i, k)) (range_with_len (i + 1) m)) ((i, j) ∷ [])

  pub rows_more : (i : ℕ) → rows (i + 1) ≡ rows i ++ part i (length places - (i + 1))
  rows_more i = ap (λ (xs : List ℕ). filter (keeps places t test) (flat_map (row (length places)) xs)) (range_more 0 i i (omega arith))
      ∙ ap (filter (keeps places t test)) (flat_map-append (row (length places)) (range_with_len 0 i) (i ∷ []))
      ∙ filter-append (keeps places t test) (flat_map (row (length places)) (range_with_len 0 i)) (row (length places) i ++ [])
      ∙ ap (λ (xs : List (ℕ × ℕ)). rows i ++ filter (keeps places t test) xs) (append-nil (row (length places) i))

  rows_le : (i k : ℕ) → length (rows i) ≤ length (rows (i + k))
  rows_le i zero = let e : length (rows (i + zero)) ≡ length (rows i) = ap (λ (n : ℕ). length (rows n)) (omega arith) in omega (arith, e)
  rows_le i (suc k) = let e : length (rows (i + suc k)) ≡ length (rows (i + k + 1)) = ap (λ (n : ℕ). length (rows n)) (omega arith) in
      omega (
        arith,
        e,
        rows_le i k,
        ap length (rows_more (i + k)),
        length-append (rows (i + k)) (part (i + k) (length places - (i + k + 1))),
      )

  part_le : (i m k : ℕ) → length (part i m) ≤ length (part i (m + k))
  part_le i m zero = let e : length (part i (m + zero)) ≡ length (part i m) = ap (λ (n : ℕ). length (part i n)) (omega arith) in
      omega (arith, e)
  part_le i m (suc k) = let e : length (part i (m + suc k))
      ≡ length (part i (m + k + 1)) = ap (λ (n : ℕ). length (part i n)) (omega arith) in
      omega (
        arith,
        e,
        part_le i m k,
        ap length (part_more i (m + k) (i + 1 + (m + k)) refl),
        length-append (part i (m + k)) (cond (keeps places t test (i, i + 1 + (m + k))) ((i, i + 1 + (m + k)) ∷ []) []),
      )

  -- there are no more of them than of all
  pub found_le : (i m : ℕ) → i < length places → m ≤ length places - (i + 1)
      → length (rows i) + length (part i m) ≤ length (near_pairs places t test)
  found_le i m li lm =
      let a : length (part i (m + (length places - (i + 1) - m)))
      ≡ length (part i (length places - (i + 1))) = ap (λ (n : ℕ). length (part i n)) (omega arith) in
      let b : length (rows (i + 1 + (length places - (i + 1))))
      ≡ length (rows (length places)) = ap (λ (n : ℕ). length (rows n)) (omega arith) in
      omega (
        arith,
        a,
        b,
        part_le i m (length places - (i + 1) - m),
        ap length (rows_more i),
        length-append (rows i) (part i (length places - (i + 1))),
        rows_le (i + 1) (length places - (i + 1)),
      )

  -- before row i
  pub record IsFoundRows (i : ℕ) (old new : Roomed (ℕ × ℕ)) : Type 0 where
    pub room : new.room ≡ old.room
    pub entries : new.entries ≡ rows i
    pub fits : length new.entries ≤ new.room
