use Rattle.std.proofs.Common.{◌∙◌, sym, ap, below_more}
use Rattle.pbd_shape.proofs.touch.one_touches.Goals as goal

pub loop-j-preserved : goal.loop-j-preserved
loop-j-preserved g c = λ e. below_more _ _ (c.loop-j.invariant (c.either-touched.ensures.first e))
    (ap (g.S.Touch.shape c.args.shape.now) (sym c.place.ensures) ∙ c.touches.ensures (c.either-touched.ensures.second e))
