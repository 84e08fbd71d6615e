use Rattle.std.proofs.Common.{map}
use Rattle.pbd_store.specs.Blocks.{place_of}
use Rattle.pbd_shape.proofs.Ways.{still_on}
use Rattle.pbd_shape.proofs.touch.then_touches.Goals as goal

pub returns-else-touched : goal.returns-else-touched
returns-else-touched g c =
    let at = c.args.at.now in
    λ before h e. still_on before (map g.S.Touch.shape c.args.shapes.now) g.row.L (place_of at.x at.y at.z) (h c.if-touched.false)
    (c.any_touches.ensures e)
