-- The limit, and tests that are made with the numbers as the program has them.
use Rattle.std.proofs.Common.{◌≡◌, ℤ, pos, ◌≤ℤ◌, ◌≤◌, ◌^◌, unsigned_abs, w64, to_z, of_z, FitsSigned, true, Ok, Err, arith}
use Rattle.std.specs.Prelude.{Result, IfOk, IsTrue}
use Rattle.std.proofs.lemmas.Int.{ints, to_z-of_z}
use Rattle.pbd_num.proofs.Sizes.{fits as fits_below, size_above, size_at_most}
use Rattle.pbd_num.proofs.Ranges.{within_facts}
use Rattle.pbd_num.specs.declared.Vec3.{Vec3}
use Rattle.pbd_num.specs.Vectors.{Within, is_within}
use Rattle.pbd_world.specs.Valid.{is_limit}
use Rattle.pbd_mesh.proofs.Facts.{limit_bounds}
use Rattle.pbd_scene.specs.declared.fault.SceneFault.{SceneFault}

pub limit_fits : (limit : ℤ) → unsigned_abs limit ≤ 2 ^ 29 → FitsSigned w64 limit
limit_fits limit high = fits_below limit (omega arith)

-- one of the two limits, as the program has it
pub limit_clauses : (limit : ℤ) → FitsSigned w64 limit → IsTrue (is_limit limit)
    → (pos 0 ≤ℤ to_z w64 (of_z w64 limit)) × (unsigned_abs (to_z w64 (of_z w64 limit)) ≤ 2 ^ 29)
limit_clauses limit fits is = let b = limit_bounds limit is in (simp to_z-of_z b.0, simp to_z-of_z b.1)

-- a number from 1 to the limit
at_most_limit : (limit n : ℤ) → pos 1 ≤ℤ n → n ≤ℤ limit → unsigned_abs limit ≤ 2 ^ 29 → unsigned_abs n ≤ 2 ^ 29
at_most_limit limit n low most high = size_at_most n (2 ^ 29) (omega (arith, ints)) (omega (arith, ints, size_above limit))

-- the same of one that is there unless there is a fault
pub length_short : (limit : ℤ) (r : Result ℤ SceneFault) → unsigned_abs limit ≤ 2 ^ 29 → IfOk r (λ n. pos 1 ≤ℤ n) → IfOk r (λ n. n ≤ℤ limit)
    → IfOk r (λ n. unsigned_abs n ≤ 2 ^ 29)
length_short limit (Ok n) high low most = at_most_limit limit n low most high
length_short limit (Err e) high low most = tt

-- a vector within the limit
pub within_limit : (limit : ℤ) (v : Vec3) → pos 0 ≤ℤ limit → unsigned_abs limit ≤ 2 ^ 30 → is_within limit v ≡ true → Within (2 ^ 30) v
within_limit limit v low high t =
    let w = (within_facts limit v low).0 t in
    record { x = omega (arith, w.x); y = omega (arith, w.y); z = omega (arith, w.z) }
