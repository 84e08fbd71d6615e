use Rattle.std.proofs.Common.{◌≡◌, drop, map, unsigned_abs}
use Rattle.pbd_num.specs.Vectors.{Within}
use Rattle.pbd_world.specs.Shapes.{way_through}
use Rattle.pbd_shape.specs.Way.{way_of}
use Rattle.pbd_shape.proofs.way.past_all.Given as goal

-- what is left of the way makes the whole
abbrev pub invariant-loop-shape : goal.invariant-loop-shape
invariant-loop-shape g l = record {
  rest : way_through l.limit (map g.S.Touch.shape (drop l.shape-index l.shapes)) (way_of l.now)
      ≡ way_through l.limit (map g.S.Touch.shape l.shapes) (way_of l.initial.now);
  within : Within (unsigned_abs l.limit) l.now.at;
}
