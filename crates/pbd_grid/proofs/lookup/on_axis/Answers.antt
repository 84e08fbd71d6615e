use Rattle.std.proofs.Common.{w64}
use Rattle.std.proofs.lemmas.Int.{to_z-of_z}
use Rattle.pbd_grid.proofs.Looking.{axis_left, axis_right}
use Rattle.pbd_grid.proofs.lookup.on_axis.Goals as goal

pub returns-then-x-lt0-clause-value : goal.returns-then-x-lt0-clause-value
returns-then-x-lt0-clause-value c = axis_left c.args.side c.unsigned_abs-far.result c.args.x _ c.requires.low
    (to_z-of_z w64 c.args.x c.ranges.x) c.unsigned_abs-far.ensures.value c.requires.x c.if-x-lt0.true

pub returns-else-x-lt0-clause-value : goal.returns-else-x-lt0-clause-value
returns-else-x-lt0-clause-value c = axis_right c.args.side c.unsigned_abs-far.result c.args.x _ c.requires.low
    (to_z-of_z w64 c.args.x c.ranges.x) c.unsigned_abs-far.ensures.value c.if-x-lt0.false
