use Rattle.std.proofs.Common.{arith, to_z, w64, ◌-ℤ◌, ◌/◌, ◌≤◌, ◌^◌, pos, unsigned_abs, ◌≡◌}
use Rattle.std.proofs.lemmas.Int.{ints, to_z-of_z}
use Rattle.pbd_num.proofs.Sizes.{fits}
use Rattle.pbd_num.proofs.RoundingLemmas.{size-rdiv}
use Rattle.pbd_num.proofs.Tests.{part_by_raised}
use Rattle.pbd_num.proofs.tried.part_of_512.Goals as goal

pub returns-clause-value : goal.returns-clause-value
returns-clause-value c =
    let p_fits = c.ranges.p in
    let raised = c.raise.ensures.high in
    let low : unsigned_abs c.raise.result / 512 ≤ 2 ^ 33 = omega arith in
    let shifted = fits (pos (unsigned_abs c.raise.result / 512)) (omega arith) in
    let part = fits (pos (unsigned_abs c.raise.result / 512) -ℤ pos 4294967296) (omega (arith, ints)) in
    let raised_fits = fits c.raise.result (omega arith) in
    let above = simp to_z-of_z at c.raise.ensures.above in
    let below = simp to_z-of_z at c.raise.ensures.below in
    let cast : to_z w64 (unsigned_abs c.raise.result / 512) ≡ pos (unsigned_abs c.raise.result / 512) = omega (arith, ints) in
    simp to_z-of_z (rw cast (simp to_z-of_z (part_by_raised c.args.p c.raise.result c.requires above below)))

pub returns-clause-size : goal.returns-clause-size
returns-clause-size c = rw (returns-clause-value c) (size-rdiv c.args.p (pos 512) (2 ^ 31) (omega arith) (omega (arith, c.requires)))
