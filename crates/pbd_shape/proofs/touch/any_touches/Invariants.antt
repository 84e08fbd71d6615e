use Rattle.std.proofs.Common.{◌≡◌, ℕ, ℤ, ◌<◌, drop, map}
use Rattle.pbd_world.specs.Shapes.{way_through}
use Rattle.pbd_store.specs.Blocks.{place_of}
use Rattle.pbd_shape.specs.Way.{starting}
use Rattle.pbd_shape.proofs.touch.any_touches.Given as goal

-- what is left of each way makes the whole
abbrev pub invariant-loop-shape : goal.invariant-loop-shape
invariant-loop-shape g l = (limit : ℤ) (j : ℕ) → j < g.row.L
    → way_through limit (map g.S.Touch.shape (drop l.shape-index l.shapes)) (starting (place_of l.at.x l.at.y l.at.z j))
    ≡ way_through limit (map g.S.Touch.shape l.shapes) (starting (place_of l.at.x l.at.y l.at.z j))
