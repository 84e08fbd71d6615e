use Rattle.std.proofs.Common.{◌≡◌, refl, arith, pos, ℤ, ◌≤ℤ◌, ◌<ℤ◌, ◌≤◌, unsigned_abs, w64, FitsSigned, ◌^◌}
use Rattle.std.proofs.lemmas.Int.{to_z-of_z}
use Rattle.pbd_num.proofs.Sizes.{fits}
use Rattle.pbd_num.proofs.VectorSizes.{word, words_within}
use Rattle.pbd_num.proofs.Ends.{same_axes}
use Rattle.pbd_num.proofs.tried.moved.Goals as goal

-- the move r of an end on one axis, as it comes to stand in 64 bits
axis_free : (weight part r : ℤ) → FitsSigned w64 weight → unsigned_abs part ≤ 2 ^ 31 → pos 0 <ℤ weight
    → (pos 0 <ℤ word weight → r ≡ word part) → word r ≡ part
axis_free weight part r weight_fits size free moves =
    let part_fits = fits part (omega (arith, size)) in
    let is = simp to_z-of_z at moves in
    rw (is free) (simp to_z-of_z)

axis_held : (weight r : ℤ) → FitsSigned w64 weight → weight ≤ℤ pos 0 → (word weight ≤ℤ pos 0 → r ≡ pos 0) → word r ≡ pos 0
axis_held weight r weight_fits held rests = let is = simp to_z-of_z at rests in rw (is held) refl

axis_size : (part r : ℤ) → unsigned_abs part ≤ 2 ^ 31 → unsigned_abs r ≤ unsigned_abs (word part) → unsigned_abs r ≤ 2 ^ 31
axis_size part r size less =
    let part_fits = fits part (omega (arith, size)) in
    let less' = simp to_z-of_z at less in
    omega (arith, size, less')

pub returns-clause-free : goal.returns-clause-free
returns-clause-free c = λ free.
    let axis = λ (part r : ℤ) (h : unsigned_abs part ≤ 2 ^ 31). axis_free c.args.weight part r c.ranges.weight h free in
    same_axes _ _ (axis _ _ c.requires.x c.moved_axis.ensures.free) (axis _ _ c.requires.y c.moved_axis-2.ensures.free)
    (axis _ _ c.requires.z c.moved_axis-3.ensures.free)

pub returns-clause-held : goal.returns-clause-held
returns-clause-held c = λ held.
    let axis = λ (r : ℤ). axis_held c.args.weight r c.ranges.weight held in
    same_axes _ _ (axis _ c.moved_axis.ensures.held) (axis _ c.moved_axis-2.ensures.held) (axis _ c.moved_axis-3.ensures.held)

pub returns-clause-size : goal.returns-clause-size
returns-clause-size c =
    words_within (record { x = c.moved_axis.result; y = c.moved_axis-2.result; z = c.moved_axis-3.result }) (2 ^ 31) (omega arith)
    (record {
      x = axis_size c.args.parts.x c.moved_axis.result c.requires.x c.moved_axis.ensures.size;
      y = axis_size c.args.parts.y c.moved_axis-2.result c.requires.y c.moved_axis-2.ensures.size;
      z = axis_size c.args.parts.z c.moved_axis-3.result c.requires.z c.moved_axis-3.ensures.size;
    })
