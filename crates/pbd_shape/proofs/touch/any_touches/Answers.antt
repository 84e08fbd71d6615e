use Rattle.std.proofs.Common.{◌∙◌, sym, subst, refl, arith}
use Rattle.std.proofs.lemmas.List.Elements.{All-get_or}
use Rattle.pbd_store.specs.Blocks.{place_of}
use Rattle.pbd_shape.specs.Way.{starting}
use Rattle.pbd_shape.proofs.Ways.{way_on, way_all}
use Rattle.pbd_shape.proofs.touch.any_touches.Goals as goal

pub loop-shape-init : goal.loop-shape-init
loop-shape-init g c = λ limit j lt. refl

pub one_touches-requires : goal.one_touches-requires
one_touches-requires g c = (
  omega arith,
  (
    c.requires.lanes,
    (
      subst g.S.Touch.is_in_range (sym c.shape-item.is) (All-get_or g.S.Touch.is_in_range c.args.shapes.now
          c.loop-shape.shape-index c.shape-item.result c.loop-shape-test.true c.requires.shapes),
      c.requires.places,
    ),
  ),
)

pub loop-shape-preserved : goal.loop-shape-preserved
loop-shape-preserved g c =
    let at = c.args.at.now in
    λ limit j lt.
    let start = starting (place_of at.x at.y at.z j) in
    way_on limit g.S.Touch.shape c.args.shapes.now c.loop-shape.shape-index c.loop-shape-test.true c.shape-item.is start start
    (sym (c.one_touches.ensures c.if-one_touches.false j lt)) refl ∙ c.loop-shape.invariant limit j lt

pub returns : goal.returns
returns g c =
    let at = c.args.at.now in
    λ e. record {
      at = λ limit j lt. sym (c.loop-shape.invariant limit j lt)
          ∙ sym (way_all limit g.S.Touch.shape c.args.shapes.now c.loop-shape.shape-index
          (starting (place_of at.x at.y at.z j)) c.loop-shape-test.false);
    }
