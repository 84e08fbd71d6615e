-- What a look-up of cells needs of numbers.
use Rattle.std.proofs.Common.{◌≡◌, ◌∙◌, sym, ap, ℕ, suc, ◌+◌, ◌-◌, ◌*◌, ◌/◌, ◌<◌, ◌≤◌, ◌^◌, ◌&&◌, ltb, Bool, true, false, ℤ, pos, negsuc}
use Rattle.std.proofs.Common.{◌+ℤ◌, ◌-ℤ◌, ◌*ℤ◌, ◌≤ℤ◌, unsigned_abs, List, length, map, get_or, refl, arith}
use Rattle.std.proofs.lemmas.List.{get_or-map}
use Rattle.pbd_num.specs.Vectors.{zero_vector}
use Rattle.pbd_num.proofs.Sizes.{pos_size}
use Rattle.std.specs.Prelude.{int_lt}
use Rattle.std.proofs.lemmas.Bool.{false≢true, le-ltb}
use Rattle.std.proofs.lemmas.Bool.Decides.{nat_tests}
use Rattle.std.proofs.lemmas.Int.{ints}
use Rattle.std.proofs.lemmas.Nat.{div_below, div-mul-add}
use Rattle.std.proofs.Math.Nat.{add-mul-div_right, div-mul-le_self, lt-div-mul-add}
use Rattle.pbd_num.specs.declared.Vec3.{Vec3}
use Rattle.pbd_grid.specs.declared.lookup.GridCell.{GridCell}
use Rattle.pbd_grid.specs.Near.{AllInside, place_at, is_near}
use Rattle.pbd_grid.specs.Blocks.{Below, axis_cell, cube_of, cube_at, cell_at, same_cell, keep}
use Rattle.pbd_grid.proofs.Cells.{cells_near}

shifted_above : (side n : ℕ) → unsigned_abs (pos n +ℤ pos 536870912 *ℤ pos side) ≡ n + 536870912 * side
shifted_above side n = search (arith, ints)

shifted_below : (side m : ℕ) → suc m ≤ 536870912 * side → unsigned_abs (negsuc m +ℤ pos 536870912 *ℤ pos side) ≡ 536870912 * side - suc m
shifted_below side m h = search (arith, ints)

-- the cell by the distance from 0, on both sides
axis_above : (side n : ℕ) → 0 < side → 536870912 + n / side ≡ axis_cell side (pos n)
unfolding axis_cell
axis_above side n low = omega (arith, ap (λ (k : ℕ). k / side) (shifted_above side n), add-mul-div_right n 536870912 low)

axis_below : (side m : ℕ) → 0 < side → m < 536870912 → 536870911 - m / side ≡ axis_cell side (negsuc m)
unfolding axis_cell
axis_below side m low small =
    let q = m / side in
    let r = 536870911 - q in
    let floor : q * side ≤ m = div-mul-le_self m side in
    let ceiling : m < q * side + side = lt-div-mul-add low in
    let few : q ≤ m = omega (arith, floor, low) in
    let whole : r + q ≡ 536870911 = omega (arith, few, small) in
    let parts : r * side + q * side ≡ 536870911 * side = omega (arith, ap (λ (k : ℕ). k * side) whole) in
    let rest : 536870912 * side - suc m ≡ r * side + (q * side + side - suc m) = omega (arith, parts, ceiling) in
    sym (ap (λ (k : ℕ). k / side) (shifted_below side m (omega (arith, low, small)) ∙ rest)
    ∙ div-mul-add r side (q * side + side - suc m) (omega (arith, floor, ceiling)))

not_left : (n : ℕ) → int_lt (pos n) (pos 0) ≡ false
not_left n = le-ltb n 0 (omega arith)

left_of : (side : ℕ) (x : ℤ) → 0 < side → unsigned_abs x ≤ 536870912 → int_lt x (pos 0) ≡ true
    → 536870911 - (unsigned_abs x - 1) / side ≡ axis_cell side x
left_of side (pos n) low small e = absurd (false≢true (sym (not_left n) ∙ e))
left_of side (negsuc m) low small e = let less : suc m - 1 ≡ m = omega arith in
    ap (λ (k : ℕ). 536870911 - k / side) less ∙ axis_below side m low (omega (arith, small))

right_of : (side : ℕ) (x : ℤ) → 0 < side → int_lt x (pos 0) ≡ false → 536870912 + unsigned_abs x / side ≡ axis_cell side x
right_of side (pos n) low e = axis_above side n low
right_of side (negsuc m) low e = absurd (false≢true (sym e))

module _ (side far : ℕ) (x y : ℤ) (low : 0 < side) (same : y ≡ x) (is : far ≡ unsigned_abs y) where
  pub axis_left : unsigned_abs x ≤ 2 ^ 29 → int_lt y (pos 0) ≡ true → 536870911 - (far - 1) / side ≡ axis_cell side x
  axis_left small e = rw (is, same) (left_of side x low (omega (arith, small)) (rw same at e))

  pub axis_right : int_lt y (pos 0) ≡ false → 536870912 + far / side ≡ axis_cell side x
  axis_right e = rw (is, same) (right_of side x low (rw same at e))

shifted_small : (side : ℕ) (x : ℤ) → unsigned_abs x ≤ 536870912
    → unsigned_abs (x +ℤ pos 536870912 *ℤ pos side) ≤ 536870912 + 536870912 * side
shifted_small side x h = search (arith, ints)

pub axis_small : (side : ℕ) (x : ℤ) → unsigned_abs x ≤ 536870912 → 0 < side → axis_cell side x < 1073741825
unfolding axis_cell
axis_small side x h low = div_below (unsigned_abs (x +ℤ pos 536870912 *ℤ pos side)) side 1073741825 low
    (omega (arith, shifted_small side x h))

shifted_near : (side : ℕ) (x y : ℤ) → unsigned_abs x ≤ 536870912 → unsigned_abs y ≤ 536870912 → 0 < side → unsigned_abs (x -ℤ y) < side
    → unsigned_abs (x +ℤ pos 536870912 *ℤ pos side) < unsigned_abs (y +ℤ pos 536870912 *ℤ pos side) + side
shifted_near side x y h k low l = search (arith, ints)

pub axis_near : (side : ℕ) (x y : ℤ) → unsigned_abs x ≤ 536870912 → unsigned_abs y ≤ 536870912 → 0 < side → unsigned_abs (x -ℤ y) < side
    → axis_cell side x ≤ axis_cell side y + 1
unfolding axis_cell
axis_near side x y h k low l = cells_near side (unsigned_abs (x +ℤ pos 536870912 *ℤ pos side))
    (unsigned_abs (y +ℤ pos 536870912 *ℤ pos side)) low (shifted_near side x y h k low l)

-- in cubes at most one apart, the one is in the least cell round the other or in the next
pub home_from : (a b : ℕ) → a ≤ b + 1 → a / 2 ≤ (b + 1) / 2
home_from a b h = omega (arith, h)

pub home_to : (a b : ℕ) → b ≤ a + 1 → (b + 1) / 2 ≤ a / 2 + 1
home_to a b h = omega (arith, h)

pub gap_turn : (x y : ℤ) → unsigned_abs (x -ℤ y) ≡ unsigned_abs (y -ℤ x)
gap_turn x y = search (arith, ints)

-- a thickness as the side of cubes
pub side_is : (t u : ℤ) → pos 1 ≤ℤ t → u ≡ t → pos (unsigned_abs u) ≡ t
side_is t u low same = rw same (sym (pos_size t (grind (arith, ints))))

-- a place's cube by its column
pub cube_read : (side : ℕ) (places : List Vec3) (cubes : List GridCell) (i : ℕ) (c : GridCell) → cubes ≡ map (cube_of side) places
    → i < length places → get_or cubes i c ≡ cube_at side places i
cube_read side places cubes i c is l = ap (λ (cs : List GridCell). get_or cs i c) is ∙ get_or-map (cube_of side) places i zero_vector c l

pub cube_below : (side : ℕ) (places : List Vec3) → AllInside places → 0 < side → (i : ℕ) → i < length places
    → Below 1073741825 (cube_at side places i)
cube_below side places inside low i l = let h = inside i l in record {
  x = axis_small side (place_at places i).x (omega (arith, h.x)) low;
  y = axis_small side (place_at places i).y (omega (arith, h.y)) low;
  z = axis_small side (place_at places i).z (omega (arith, h.z)) low;
}

-- the test of a look-up
abbrev pub finds : List Vec3 → ℕ → (ℕ → ℕ → Bool) → ℕ → GridCell → ℕ → Bool
finds places t test i c j = same_cell c (cell_at t places j) && keep places t test i j

-- nothing up to i is found with it
pub finds_behind : (places : List Vec3) (t : ℕ) (test : ℕ → ℕ → Bool) (i : ℕ) (c : GridCell) (j : ℕ) → j ≤ i
    → finds places t test i c j ≡ false
finds_behind places t test i c j le = let no : ltb i j ≡ false = grind (arith, nat_tests) in
    rw no (none (same_cell c (cell_at t places j)) (ltb j (length places)) (is_near (pos t) (place_at places i) (place_at places j))
    (test i j))
  where
    none : (a b d e : Bool) → (a && (((b && false) && d) && e)) ≡ false
    none true true d e = refl
    none true false d e = refl
    none false b d e = refl
