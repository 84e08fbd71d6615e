-- The look-ups round a particle find its row.
use Rattle.std.proofs.Common.{◌≡◌, ℕ, suc, ◌+◌, ◌-◌, ◌<◌, ◌≤◌, ◌&&◌, Bool, true, false, cond, eqb, ltb, pos, ◌-ℤ◌, unsigned_abs, List, []}
use Rattle.std.proofs.Common.{◌∷◌, ◌++◌, length, map, get_or, refl, sym, ap, ◌∙◌, subst, arith}
use Rattle.std.proofs.lemmas.Bool.{eqb-true, and_parts, lt-ltb}
use Rattle.std.specs.List.{range_with_len, filter}
use Rattle.std.specs.List.Sorted.{IsPermutation}
use Rattle.std.proofs.lemmas.List.FromFn.{length-range_with_len, get_or-range_with_len}
use Rattle.pbd_world.specs.Room.{Roomed}
use Rattle.pbd_world.specs.Lending.{overwritten, overwritten_is}
use Rattle.pbd_chain.specs.Linked.{chain_at}
use Rattle.pbd_num.specs.declared.Vec3.{Vec3}
use Rattle.pbd_grid.specs.declared.lookup.GridCell.{GridCell}
use Rattle.pbd_grid.specs.Near.{place_at, AllInside, is_near, near_pairs}
use Rattle.pbd_grid.specs.Blocks.{count, axis_cell, cube_of, cube_at, home_of, corner_of, cell_at, same_cell, slot_of, keep, kept_row}
use Rattle.pbd_grid.specs.Blocks.{all_picked, block_part, AreOnce}
use Rattle.pbd_grid.proofs.Cells.{tally, count-kept, row_is, at_most_one}
use Rattle.pbd_grid.proofs.Around.{passing, around, passing-around}
use Rattle.pbd_grid.proofs.Finding.{keeps, rows, part, rows_more, found_le, IsFoundRows}
use Rattle.pbd_grid.proofs.Looking.{axis_near, home_from, home_to, gap_turn}
use Rattle.pbd_grid.proofs.Behind.{near_x, near_y, near_z, few_numbers, lt_of}

cell_parts : (c d : GridCell) → c.x ≡ d.x → c.y ≡ d.y → c.z ≡ d.z → c ≡ d
cell_parts c d e f g = let whole : ℕ → ℕ → ℕ → GridCell = λ x y z. record { x = x; y = y; z = z } in
    ap (λ (n : ℕ). whole n c.y c.z) e ∙ ap (λ (n : ℕ). whole d.x n c.z) f ∙ ap (λ (n : ℕ). whole d.x d.y n) g

cell_same : (c d : GridCell) → same_cell c d ≡ true → c ≡ d
cell_same c d h =
    let u = and_parts (eqb c.z d.z && eqb c.y d.y) (eqb c.x d.x) h in let v = and_parts (eqb c.z d.z) (eqb c.y d.y) u.0 in
    cell_parts c d (eqb-true c.x d.x u.1) (eqb-true c.y d.y v.1) (eqb-true c.z d.z v.0)

abbrev to_cells : List ((ℕ × ℕ) × ℕ) → List GridCell
to_cells [] = []
to_cells (z ∷ zs) = record { x = z.1; y = z.0.1; z = z.0.0 } ∷ to_cells zs

-- the eight cells from a corner on are those round it
block_is : (c : GridCell) → block_part c 8 ≡ to_cells (around c.z c.y c.x)
block_is c = refl

module _ (chains : List (List ℕ)) (side : ℕ) (places : List Vec3) (test : ℕ → ℕ → Bool) (i : ℕ) where
  abbrev chain_for : GridCell → List ℕ
  chain_for c = chain_at chains (slot_of (length chains) c)

  tally_passing : (q : ℕ) (zs : List ((ℕ × ℕ) × ℕ)) → tally same_cell (cell_at side places) chain_for (keep places side test i) q
      (to_cells zs)
      ≡ passing (λ (z : (ℕ × ℕ) × ℕ). eqb z.0.0 (cell_at side places q).z && eqb z.0.1 (cell_at side places q).y
      && eqb z.1 (cell_at side places q).x) zs
  tally_passing q [] = refl
  tally_passing q (z ∷ zs) = ap (λ (n : ℕ). cond (eqb z.0.0 (cell_at side places q).z && eqb z.0.1 (cell_at side places q).y
      && eqb z.1 (cell_at side places q).x) 1 0 + n) (tally_passing q zs)

  kept_parts : (q : ℕ) → keep places side test i q ≡ true
      → (q < length places) × (i < q) × (is_near (pos side) (place_at places i) (place_at places q) ≡ true)
  kept_parts q e =
      let a = and_parts ((ltb q (length places) && ltb i q) && is_near (pos side) (place_at places i) (place_at places q)) (test i q) e in
      let b = and_parts (ltb q (length places) && ltb i q) (is_near (pos side) (place_at places i) (place_at places q)) a.0 in
      let d = and_parts (ltb q (length places)) (ltb i q) b.0 in
      (lt_of q (length places) d.0, lt_of i q d.1, b.1)

  module _ (inside : AllInside places) (low : 0 < side) (li : i < length places) (once : AreOnce chains side places) where
    once_in : (q : ℕ) → keep places side test i q ≡ true → (c : GridCell) → same_cell c (cell_at side places q) ≡ true
        → count q (chain_for c) ≡ 1
    once_in q e c s = ap (λ (d : GridCell). count q (chain_for d)) (cell_same c (cell_at side places q) s) ∙ once q (kept_parts q e).0

    adjacent : (q : ℕ) → keep places side test i q ≡ true
        → tally same_cell (cell_at side places) chain_for (keep places side test i) q (block_part (corner_of (cube_at side places i)) 8) ≡ 1
    adjacent q e =
        let k = kept_parts q e in
        let a : Vec3 = place_at places i in let b : Vec3 = place_at places q in
        let ia = inside i li in let ib = inside q k.0 in
        let dx : unsigned_abs (a.x -ℤ b.x) < side = near_x side a b k.2 in
        let dy : unsigned_abs (a.y -ℤ b.y) < side = near_y side a b k.2 in
        let dz : unsigned_abs (a.z -ℤ b.z) < side = near_z side a b k.2 in
        let ex : unsigned_abs (b.x -ℤ a.x) < side = subst (λ (n : ℕ). n < side) (gap_turn a.x b.x) dx in
        let ey : unsigned_abs (b.y -ℤ a.y) < side = subst (λ (n : ℕ). n < side) (gap_turn a.y b.y) dy in
        let ez : unsigned_abs (b.z -ℤ a.z) < side = subst (λ (n : ℕ). n < side) (gap_turn a.z b.z) dz in
        let around_a = corner_of (cube_of side a) in let home_b = home_of (cube_of side b) in
        ap (tally same_cell (cell_at side places) chain_for (keep places side test i) q) (block_is around_a)
        ∙ tally_passing q (around around_a.z around_a.y around_a.x)
        ∙ passing-around around_a.z around_a.y around_a.x home_b.z home_b.y home_b.x
        (home_from (axis_cell side a.z) (axis_cell side b.z) (axis_near side a.z b.z ia.z ib.z low dz))
        (home_to (axis_cell side a.z) (axis_cell side b.z) (axis_near side b.z a.z ib.z ia.z low ez))
        (home_from (axis_cell side a.y) (axis_cell side b.y) (axis_near side a.y b.y ia.y ib.y low dy))
        (home_to (axis_cell side a.y) (axis_cell side b.y) (axis_near side b.y a.y ib.y ia.y low ey))
        (home_from (axis_cell side a.x) (axis_cell side b.x) (axis_near side a.x b.x ia.x ib.x low dx))
        (home_to (axis_cell side a.x) (axis_cell side b.x) (axis_near side b.x a.x ib.x ia.x low ex))

    in_range : (q : ℕ) → keep places side test i q ≡ true → (i + 1 ≤ q) × (q < i + 1 + (length places - (i + 1)))
    in_range q e = let k = kept_parts q e in (omega (arith, k.1), omega (arith, k.0, k.1))

    pub row_of : (ys : List ℕ) → IsPermutation (all_picked chains places side test i (block_part (corner_of (cube_at side places i)) 8)) ys
        → ((j k : ℕ) → j ≤ k → k < length ys → get_or ys j 0 ≤ get_or ys k 0) → ys ≡ kept_row places side test i
    unfolding all_picked
    row_of ys moved sorted = row_is same_cell (cell_at side places) chain_for (keep places side test i)
        (block_part (corner_of (cube_at side places i)) 8) (i + 1) (length places - (i + 1)) once_in adjacent in_range ys moved sorted

    counted : (q : ℕ) → count q (all_picked chains places side test i (block_part (corner_of (cube_at side places i)) 8))
        ≡ cond (keep places side test i q) 1 0
    unfolding all_picked
    counted q = count-kept same_cell (cell_at side places) chain_for (keep places side test i)
        (block_part (corner_of (cube_at side places i)) 8) (i + 1) (length places - (i + 1)) once_in adjacent in_range q

    pub row_fits : length (all_picked chains places side test i (block_part (corner_of (cube_at side places i)) 8)) ≤ length places
    row_fits = few_numbers (length places) (all_picked chains places side test i (block_part (corner_of (cube_at side places i)) 8))
        (λ q. omega (arith, counted q, at_most_one (keep places side test i q)))
        (λ q l. counted q ∙ none (keep places side test i q) (λ e. absurd (let k = kept_parts q e in omega (arith, k.0, l))))
      where
        none : (b : Bool) → (b ≡ true → ⊥) → ◌≡◌ {A = ℕ} (cond b 1 0) 0
        none true h = absurd (h refl)
        none false h = refl

abbrev listed_in : List ℕ → ℕ → Roomed ℕ
listed_in ys n = record { entries = ys; room = n }

pub written_is : (xs ws ys : List ℕ) (m n : ℕ) → length ws ≡ length xs → ws ≡ ys → m ≡ n → listed_in (overwritten xs ws) m ≡ listed_in ys n
written_is xs ws ys m n len e f = ap (λ (zs : List ℕ). listed_in zs m) (overwritten_is xs ws len ∙ e) ∙ ap (λ (k : ℕ). listed_in ys k) f

-- ---- rows of pairs
length_pairs : (f : ℕ → ℕ × ℕ) (xs : List ℕ) → length (map f xs) ≡ length xs
length_pairs f [] = refl
length_pairs f (x ∷ xs) = ap suc (length_pairs f xs)

map_filter : (f : ℕ → ℕ × ℕ) (p : ℕ × ℕ → Bool) (r : ℕ → Bool) (xs : List ℕ)
    → ((k : ℕ) → k < length xs → r (get_or xs k 0) ≡ p (f (get_or xs k 0))) → map f (filter r xs) ≡ filter p (map f xs)
map_filter f p r [] h = refl
map_filter f p r (x ∷ xs) h = rw (h 0 (omega arith)) (map_if (p (f x)) (map_filter f p r xs (λ k l. h (suc k) (omega arith))))
  where
    map_if : (b : Bool) → map f (filter r xs) ≡ filter p (map f xs)
        → map f (cond b (x ∷ filter r xs) (filter r xs)) ≡ cond b (f x ∷ filter p (map f xs)) (filter p (map f xs))
    map_if true e = ap (λ (ys : List (ℕ × ℕ)). f x ∷ ys) e
    map_if false e = e

module _ (places : List Vec3) (t : ℕ) (test : ℕ → ℕ → Bool) where
  pub row_part : (i : ℕ) → map (λ (j : ℕ). (i, j)) (kept_row places t test i) ≡ part places (pos t) test i (length places - (i + 1))
  row_part i = map_filter (λ (j : ℕ). (i, j)) (keeps places (pos t) test) (keep places t test i)
      (range_with_len (i + 1) (length places - (i + 1)))
      (λ k l. let len = length-range_with_len (i + 1) (length places - (i + 1)) in
      let at : get_or (range_with_len (i + 1) (length places - (i + 1))) k 0
      ≡ i + 1 + k = get_or-range_with_len (i + 1) (length places - (i + 1)) k 0 (omega (arith, l, len)) in
      rw (at, lt-ltb (i + 1 + k) (length places) (omega (arith, l, len)), lt-ltb i (i + 1 + k) (omega arith)) refl)

  pub IsFoundRows-row : (i : ℕ) (old now new : Roomed (ℕ × ℕ)) (row : List ℕ) → IsFoundRows places (pos t) test i old now
      → row ≡ kept_row places t test i
      → new ≡ record now { entries = now.entries ++ map (λ (j : ℕ). (i, j)) row } → length new.entries ≤ new.room
      → IsFoundRows places (pos t) test (i + 1) old new
  IsFoundRows-row i old now new row h is push fits = record {
    room = ap (λ (r : Roomed (ℕ × ℕ)). r.room) push ∙ h.room;
    entries = ap (λ (r : Roomed (ℕ × ℕ)). r.entries) push ∙ ap (λ (xs : List (ℕ × ℕ)). xs ++ map (λ (j : ℕ). (i, j)) row) h.entries
        ∙ ap (λ (xs : List ℕ). rows places (pos t) test i ++ map (λ (j : ℕ). (i, j)) xs) is
        ∙ ap (λ (xs : List (ℕ × ℕ)). rows places (pos t) test i ++ xs) (row_part i) ∙ sym (rows_more places (pos t) test i);
    fits = fits;
  }

  pub row_full : (i : ℕ) (old now : Roomed (ℕ × ℕ)) (row : List ℕ) → i < length places → IsFoundRows places (pos t) test i old now
      → row ≡ kept_row places t test i
      → now.room < length now.entries + length row → old.room < length (near_pairs places (pos t) test)
  row_full i old now row li h is full =
      let same : length row ≡ length (part places (pos t) test i (length places - (i + 1))) = sym (length_pairs (λ (j : ℕ). (i, j)) row)
      ∙ ap (λ (xs : List ℕ). length {A = ℕ × ℕ} (map (λ (j : ℕ). (i, j)) xs)) is ∙ ap length (row_part i) in
      omega (arith, full, same, h.room, ap length h.entries, found_le places (pos t) test i (length places - (i + 1)) li (omega arith))
