use Rattle.std.proofs.Common.{arith, ◌^◌}
use Rattle.std.proofs.lemmas.Int.{to_z-of_z}
use Rattle.pbd_num.proofs.Ranges.{wider}
use Rattle.pbd_num.proofs.VectorSizes.{times_within}
use Rattle.pbd_num.proofs.Vec3.scaled.Goals as goal

pub part_of-requires : goal.part_of-requires
part_of-requires c =
    let part = c.ranges.part in
    let whole = c.ranges.whole in
    record {
      vector = wider c.args.self (2 ^ 30) (2 ^ 61) (omega arith) c.requires.vector;
      products = simp to_z-of_z (times_within c.args.part c.args.self (2 ^ 30) (2 ^ 31) (2 ^ 61) c.requires.vector c.requires.part (omega arith));
      whole_low = simp to_z-of_z c.requires.whole_low;
      whole_high = simp to_z-of_z c.requires.whole_high;
    }

pub returns-clause-value : goal.returns-clause-value
returns-clause-value c =
    let part = c.ranges.part in
    let whole = c.ranges.whole in
    simp to_z-of_z at c.part_of.ensures.value

pub returns-clause-size : goal.returns-clause-size
returns-clause-size c =
    let part = c.ranges.part in
    let whole = c.ranges.whole in
    simp to_z-of_z at c.part_of.ensures.size
