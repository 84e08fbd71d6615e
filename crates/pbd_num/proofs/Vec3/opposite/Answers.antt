use Rattle.std.proofs.Common.{arith, ◌^◌}
use Rattle.std.proofs.lemmas.Int.{to_z-of_z}
use Rattle.pbd_num.specs.Vectors.{minus, zero_vector}
use Rattle.pbd_num.proofs.VectorSizes.{fit_axes, opposite_within, nothing_minus}
use Rattle.pbd_num.proofs.Vec3.opposite.Goals as goal

pub returns-clause-value : goal.returns-clause-value
returns-clause-value c =
    let is = nothing_minus c.args.self in
    let v = fit_axes c.args.self (2 ^ 61) (omega arith) c.requires in
    let o = fit_axes (minus zero_vector c.args.self) (2 ^ 61) (omega arith) (rw is (opposite_within c.args.self (2 ^ 61) c.requires)) in
    let vx = v.x in
    let vy = v.y in
    let vz = v.z in
    let x = o.x in
    let y = o.y in
    let z = o.z in
    simp to_z-of_z is

pub returns-clause-size : goal.returns-clause-size
returns-clause-size c = λ n h. rw (returns-clause-value c) (opposite_within c.args.self n h)
