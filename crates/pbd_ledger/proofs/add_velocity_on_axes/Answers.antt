use Rattle.std.proofs.Common.{◌≡◌, ℤ, ℕ, ◌+◌, ◌+ℤ◌, ◌-ℤ◌, ◌≤◌, ◌^◌, unsigned_abs, to_z, of_z, arith, rules, FitsSigned, w64}
use Rattle.std.specs.Int.{w128}
use Rattle.std.proofs.lemmas.Int.{to_z-of_z}
use Rattle.pbd_world.specs.Ledger.{sum_of, sum_plus}
use Rattle.pbd_world.proofs.MomentumLemmas.{same_sum}
use Rattle.pbd_num.specs.Vectors.{minus}
use Rattle.pbd_ledger.proofs.Adding.{wide}
use Rattle.pbd_ledger.proofs.add_velocity_on_axes.Goals as goal

pub add_velocity-requires : goal.add_velocity-requires
add_velocity-requires c =
    let fits = wide (sum_of c.args.sum).x (omega arith) in
    simp to_z-of_z c.requires.x

pub add_velocity-requires-2 : goal.add_velocity-requires-2
add_velocity-requires-2 c =
    let fits = wide (sum_of c.args.sum).y (omega arith) in
    simp to_z-of_z c.requires.y

pub add_velocity-requires-3 : goal.add_velocity-requires-3
add_velocity-requires-3 c =
    let fits = wide (sum_of c.args.sum).z (omega arith) in
    simp to_z-of_z c.requires.z

-- a sum and one velocity more, of the numbers that were handed in
value_told : (at before : ℤ) {sum grown : ℤ} → FitsSigned w64 at → FitsSigned w64 before → FitsSigned w128 sum → FitsSigned w128 grown
    → grown ≡ to_z w128 (of_z w128 sum) +ℤ (to_z w64 (of_z w64 at) -ℤ to_z w64 (of_z w64 before))
    → to_z w128 (of_z w128 grown) ≡ sum +ℤ (at -ℤ before)
value_told at before at_fits before_fits sum_fits grown_fits e = let told = simp to_z-of_z at e in simp to_z-of_z told

pub returns-clause-value : goal.returns-clause-value
returns-clause-value c = same_sum _ (sum_plus (sum_of c.args.sum) (minus c.args.at c.args.before))
    (value_told c.args.at.x c.args.before.x (search rules) (search rules) (wide (sum_of c.args.sum).x (omega arith))
    (record { sfits = c.add_velocity.type_inv }) c.add_velocity.ensures.value)
    (value_told c.args.at.y c.args.before.y (search rules) (search rules) (wide (sum_of c.args.sum).y (omega arith))
    (record { sfits = c.add_velocity-2.type_inv }) c.add_velocity-2.ensures.value)
    (value_told c.args.at.z c.args.before.z (search rules) (search rules) (wide (sum_of c.args.sum).z (omega arith))
    (record { sfits = c.add_velocity-3.type_inv }) c.add_velocity-3.ensures.value)

-- a sum that grows by as much as one velocity can be, as it stands in 128 bits
size_told : (sum grown : ℤ) {bound : ℕ} → FitsSigned w128 sum → FitsSigned w128 grown → unsigned_abs sum ≤ bound
    → unsigned_abs grown ≤ unsigned_abs (to_z w128 (of_z w128 sum)) + 2 ^ 64
    → unsigned_abs (to_z w128 (of_z w128 grown)) ≤ bound + 2 ^ 64
size_told sum grown sum_fits grown_fits h size =
    let told = simp to_z-of_z at size in
    simp to_z-of_z (omega (arith, h, told))

pub returns-clause-size : goal.returns-clause-size
returns-clause-size c bound h = record {
  x = size_told (sum_of c.args.sum).x c.add_velocity.result (wide (sum_of c.args.sum).x (omega arith))
      (record { sfits = c.add_velocity.type_inv }) h.x c.add_velocity.ensures.size;
  y = size_told (sum_of c.args.sum).y c.add_velocity-2.result (wide (sum_of c.args.sum).y (omega arith))
      (record { sfits = c.add_velocity-2.type_inv }) h.y c.add_velocity-2.ensures.size;
  z = size_told (sum_of c.args.sum).z c.add_velocity-3.result (wide (sum_of c.args.sum).z (omega arith))
      (record { sfits = c.add_velocity-3.type_inv }) h.z c.add_velocity-3.ensures.size;
}
