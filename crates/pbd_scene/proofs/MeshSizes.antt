-- How large a mesh that fits is.
use Rattle.std.proofs.Common.{◌≡◌, ◌∙◌, sym, ℕ, ℤ, Bool, pos, ◌≤◌, ◌≤ℤ◌, ◌^◌, unsigned_abs, w64, to_z, of_z, arith}
use Rattle.std.specs.Prelude.{IsTrue}
use Rattle.std.proofs.Math.Nat.{mul-le-mul_left}
use Rattle.std.proofs.lemmas.Bool.{and_parts}
use Rattle.std.proofs.lemmas.Int.{to_z-of_z}
use Rattle.pbd_mesh.specs.declared.spec.ClothSpec.{ClothSpec}
use Rattle.pbd_mesh.specs.declared.spec.RopeSpec.{RopeSpec}
use Rattle.pbd_mesh.specs.Cloth.{cloth_fits, cloth_in_ranges, cloth_is_inside}
use Rattle.pbd_mesh.specs.Rope.{rope_fits, rope_in_ranges, rope_is_inside}
use Rattle.pbd_mesh.proofs.Facts.{cloth_bounds, rope_bounds}
use Rattle.pbd_scene.specs.declared.limit.Limit.{Limit}
use Rattle.pbd_scene.specs.Entries.{cloth_size, rope_size}
use Rattle.pbd_scene.proofs.Bounds.{limit_fits}

pub cloth_few : (limit : ℤ) (s : ClothSpec) → pos 0 ≤ℤ limit → unsigned_abs limit ≤ 2 ^ 29 → IsTrue (cloth_fits limit s) → cloth_size s ≤ 65536
unfolding cloth_fits
cloth_few limit s low high t =
    let b = cloth_bounds limit s low high (and_parts (cloth_in_ranges limit s) (cloth_is_inside limit s) t).0 in
    omega (arith, b.rows, mul-le-mul_left s.rows b.columns)

pub rope_few : (limit : ℤ) (s : RopeSpec) → pos 0 ≤ℤ limit → unsigned_abs limit ≤ 2 ^ 29 → IsTrue (rope_fits limit s) → rope_size s ≤ 65536
unfolding rope_fits
rope_few limit s low high t =
    let b = rope_bounds limit s low high (and_parts (rope_in_ranges limit s) (rope_is_inside limit s) t).0 in
    omega (arith, b.count)

-- the answer of a test within the limit, as the program has it
pub fitting : {S : Type 0} (fits : ℤ → S → Bool) (size : S → ℕ)
    → ((n : ℤ) (s : S) → pos 0 ≤ℤ n → unsigned_abs n ≤ 2 ^ 29 → IsTrue (fits n s) → size s ≤ 65536) → (limit : Limit) (s : S) (answer : Bool)
    → answer ≡ fits (to_z w64 (of_z w64 limit.units)) s → (answer ≡ fits limit.units s) × (IsTrue answer → size s ≤ 65536)
fitting fits size few limit s answer is =
    let wide = limit_fits limit.units limit.high in
    let test = simp to_z-of_z at is in
    (test, λ t. few limit.units s limit.low limit.high (sym test ∙ t))
