-- What the tests of a mesh say of its numbers.
use Rattle.std.proofs.Common.{◌≡◌, sym, ◌<◌, ◌≤◌, ◌^◌, true, ◌&&◌, arith, ℕ, ℤ, pos, ◌≤ℤ◌, unsigned_abs, inl, inr}
use Rattle.std.specs.Prelude.{IsTrue, nat_lt}
use Rattle.std.specs.Ordering.{int_eq}
use Rattle.pbd_world.specs.Valid.{is_limit}
use Rattle.pbd_mesh.specs.declared.spec.Cell.{Cell}
use Rattle.std.proofs.lemmas.Int.{ints}
use Rattle.std.proofs.lemmas.Bool.{and_parts, cases_Bool, ltb-true}
use Rattle.std.proofs.lemmas.Bool.Decides.{nat_tests, Decides-int_eq}
use Rattle.pbd_num.specs.declared.Vec3.{Vec3}
use Rattle.pbd_num.specs.Vectors.{Within, is_within}
use Rattle.pbd_num.proofs.Ranges.{within_facts}
use Rattle.pbd_mesh.specs.declared.spec.ClothSpec.{ClothSpec}
use Rattle.pbd_mesh.specs.declared.spec.RopeSpec.{RopeSpec}
use Rattle.pbd_mesh.specs.Numbered.{all_below}
use Rattle.pbd_mesh.proofs.Below.{below}
use Rattle.pbd_mesh.specs.Ranges.{is_count_between}
use Rattle.pbd_mesh.specs.Cloth.{cloth_vectors_fit, cloth_counts_fit, cloth_settings_fit, cloth_tears_fit, cloth_in_ranges, cloth_is_inside}
use Rattle.pbd_mesh.specs.Cloth.{cloth_place, is_in_cloth, cloth_fits, IsCell, ClothBounds, ClothFacts}
use Rattle.pbd_mesh.specs.Rope.{rope_counts_fit, rope_settings_fit, rope_in_ranges, rope_is_inside, rope_place, rope_fits, RopeBounds}
use Rattle.pbd_mesh.specs.Rope.{RopeFacts}

at_most : (low high n : ℕ) → IsTrue (is_count_between low high n) → n ≤ high
at_most low high n t = grind (arith, nat_tests)

inside_range : (limit : ℤ) (v : Vec3) → pos 0 ≤ℤ limit → unsigned_abs limit ≤ 2 ^ 29 → IsTrue (is_within limit v) → Within (2 ^ 29) v
inside_range limit v low high t = let w = (within_facts limit v low).0 t in
    record { x = omega (arith, w.x); y = omega (arith, w.y); z = omega (arith, w.z) }

pub cloth_bounds : (limit : ℤ) (s : ClothSpec) → pos 0 ≤ℤ limit → unsigned_abs limit ≤ 2 ^ 29 → IsTrue (cloth_in_ranges limit s)
    → ClothBounds s
unfolding cloth_in_ranges cloth_vectors_fit cloth_counts_fit
cloth_bounds limit s low high t =
    let t3 = and_parts (cloth_vectors_fit limit s && cloth_counts_fit s && cloth_settings_fit s) (cloth_tears_fit limit s) t in
    let t2 = and_parts (cloth_vectors_fit limit s && cloth_counts_fit s) (cloth_settings_fit s) t3.0 in
    let t1 = and_parts (cloth_vectors_fit limit s) (cloth_counts_fit s) t2.0 in
    let v2 = and_parts (is_within limit s.origin && is_within limit s.across) (is_within limit s.down) t1.0 in
    let v1 = and_parts (is_within limit s.origin) (is_within limit s.across) v2.0 in
    let c2 = and_parts (is_count_between 1 256 s.rows && is_count_between 1 256 s.columns) (is_count_between 1 65535 s.weight) t1.1 in
    let c1 = and_parts (is_count_between 1 256 s.rows) (is_count_between 1 256 s.columns) c2.0 in
    record {
      rows = at_most 1 256 s.rows c1.0;
      columns = at_most 1 256 s.columns c1.1;
      origin = inside_range limit s.origin low high v1.0;
      across = inside_range limit s.across low high v1.1;
      down = inside_range limit s.down low high v2.1;
    }

pub rope_bounds : (limit : ℤ) (s : RopeSpec) → pos 0 ≤ℤ limit → unsigned_abs limit ≤ 2 ^ 29 → IsTrue (rope_in_ranges limit s) → RopeBounds s
unfolding rope_in_ranges rope_counts_fit
rope_bounds limit s low high t =
    let t3 = and_parts (is_within limit s.origin && is_within limit s.spacing && rope_counts_fit s) (rope_settings_fit limit s) t in
    let t2 = and_parts (is_within limit s.origin && is_within limit s.spacing) (rope_counts_fit s) t3.0 in
    let t1 = and_parts (is_within limit s.origin) (is_within limit s.spacing) t2.0 in
    let c = and_parts (is_count_between 1 4096 s.count) (is_count_between 1 65535 s.weight) t2.1 in
    record {
      count = at_most 1 4096 s.count c.0;
      origin = inside_range limit s.origin low high t1.0;
      spacing = inside_range limit s.spacing low high t1.1;
    }

-- a cell that is in the cloth
pub in_cloth : (s : ClothSpec) (cell : Cell) → true ≡ is_in_cloth s cell → IsCell s cell
in_cloth s cell t = let h = and_parts (nat_lt cell.row s.rows) (nat_lt cell.column s.columns) (sym t) in
    record { row = ltb-true cell.row s.rows h.0; column = ltb-true cell.column s.columns h.1 }

-- one of the two limits
pub limit_bounds : (limit : ℤ) → IsTrue (is_limit limit) → (pos 0 ≤ℤ limit) × (unsigned_abs limit ≤ 2 ^ 29)
limit_bounds limit is = elim (cases_Bool (int_eq limit (pos (2 ^ 28)))) [
  | inl e ↦ (let same = (Decides-int_eq limit (pos (2 ^ 28))).0 e in rw same (omega (arith, ints), omega arith))
  | inr f ↦ (let u : IsTrue (int_eq limit (pos (2 ^ 29))) = rw f at is in let same = (Decides-int_eq limit (pos (2 ^ 29))).0 u in
      rw same (omega (arith, ints), omega arith))
]

-- each of a row of places
each_within : (limit : ℤ) (n : ℕ) (place : ℕ → Vec3) (i : ℕ) → IsTrue (is_limit limit) → IsTrue (all_below n (λ j. is_within limit (place j)))
    → i < n → Within (2 ^ 29) (place i)
each_within limit n place i is inside under = let b = limit_bounds limit is in
    inside_range limit (place i) b.0 b.1 (below n (λ j. is_within limit (place j)) i inside under)

-- what fits has the facts
pub cloth_facts : (limit : ℤ) (s : ClothSpec) → IsTrue (is_limit limit) → IsTrue (cloth_fits limit s) → ClothFacts s
unfolding cloth_fits cloth_is_inside
cloth_facts limit s is fits = let h = and_parts (cloth_in_ranges limit s) (cloth_is_inside limit s) fits in
    record {
      bounds = cloth_bounds limit s (limit_bounds limit is).0 (limit_bounds limit is).1 h.0;
      place = λ r c row column. each_within limit s.columns (λ c. cloth_place s r c) c is
          (below s.rows (λ r. all_below s.columns (λ c. is_within limit (cloth_place s r c))) r h.1 row) column;
    }

pub rope_facts : (limit : ℤ) (s : RopeSpec) → IsTrue (is_limit limit) → IsTrue (rope_fits limit s) → RopeFacts s
unfolding rope_fits rope_is_inside
rope_facts limit s is fits = let h = and_parts (rope_in_ranges limit s) (rope_is_inside limit s) fits in
    record {
      bounds = rope_bounds limit s (limit_bounds limit is).0 (limit_bounds limit is).1 h.0;
      place = λ i within. each_within limit s.count (λ i. rope_place s i) i is h.1 within;
    }
