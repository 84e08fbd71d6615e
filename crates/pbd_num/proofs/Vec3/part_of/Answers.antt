use Rattle.std.proofs.Common.{ℤ, pos, ◌≤◌, ◌*ℤ◌, ◌<ℤ◌, ◌^◌, unsigned_abs, arith, w64, FitsSigned}
use Rattle.std.proofs.lemmas.Int.{to_z-of_z}
use Rattle.pbd_num.proofs.Sizes.{fits}
use Rattle.pbd_num.proofs.VectorSizes.{fit_axes, word, words_within}
use Rattle.pbd_num.proofs.Vec3.part_of.Goals as goal

-- what the part of one axis asks
asked : (axis part whole : ℤ) → FitsSigned w64 part → FitsSigned w64 whole
    → unsigned_abs axis ≤ 2 ^ 61 → unsigned_abs (axis *ℤ part) ≤ 2 ^ 61 → pos 0 <ℤ whole → unsigned_abs whole ≤ 2 ^ 40
    → record {
      product : unsigned_abs (word axis *ℤ word part) ≤ 2 ^ 61;
      whole_low : pos 0 <ℤ word whole;
      whole_high : unsigned_abs (word whole) ≤ 2 ^ 40;
    }
asked axis part whole part_fits whole_fits size product low high =
    let axis_fits = fits axis (omega (arith, size)) in
    record { product = simp to_z-of_z product; whole_low = simp to_z-of_z low; whole_high = simp to_z-of_z high }

pub scaled_axis-requires : goal.scaled_axis-requires
scaled_axis-requires c =
    let r = c.requires in
    asked c.args.self.x c.args.part c.args.whole c.ranges.part c.ranges.whole r.vector.x r.products.x r.whole_low r.whole_high

pub scaled_axis-requires-2 : goal.scaled_axis-requires-2
scaled_axis-requires-2 c =
    let r = c.requires in
    asked c.args.self.y c.args.part c.args.whole c.ranges.part c.ranges.whole r.vector.y r.products.y r.whole_low r.whole_high

pub scaled_axis-requires-3 : goal.scaled_axis-requires-3
scaled_axis-requires-3 c =
    let r = c.requires in
    asked c.args.self.z c.args.part c.args.whole c.ranges.part c.ranges.whole r.vector.z r.products.z r.whole_low r.whole_high

pub returns-clause-fits : goal.returns-clause-fits
returns-clause-fits c =
    words_within (record { x = c.scaled_axis.result; y = c.scaled_axis-2.result; z = c.scaled_axis-3.result }) (2 ^ 61) (omega arith)
    (record { x = c.scaled_axis.ensures.fits; y = c.scaled_axis-2.ensures.fits; z = c.scaled_axis-3.ensures.fits })

pub returns-clause-size : goal.returns-clause-size
returns-clause-size c = λ n less h.
    let part = c.ranges.part in
    let whole = c.ranges.whole in
    let v = fit_axes c.args.self (2 ^ 61) (omega arith) c.requires.vector in
    let vx = v.x in
    let vy = v.y in
    let vz = v.z in
    let x : FitsSigned w64 c.scaled_axis.result = record { sfits = c.scaled_axis.type_inv } in
    let y : FitsSigned w64 c.scaled_axis-2.result = record { sfits = c.scaled_axis-2.type_inv } in
    let z : FitsSigned w64 c.scaled_axis-3.result = record { sfits = c.scaled_axis-3.type_inv } in
    let sx = simp to_z-of_z at c.scaled_axis.ensures.size in
    let sy = simp to_z-of_z at c.scaled_axis-2.ensures.size in
    let sz = simp to_z-of_z at c.scaled_axis-3.ensures.size in
    simp to_z-of_z (record { x = sx n less h.x; y = sy n less h.y; z = sz n less h.z })
