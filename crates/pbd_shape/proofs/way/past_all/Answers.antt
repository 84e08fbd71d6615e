use Rattle.std.proofs.Common.{◌∙◌, sym, ap, subst, w64, FitsSigned, Option, option_map}
use Rattle.std.proofs.lemmas.Int.{to_z-of_z}
use Rattle.std.proofs.lemmas.List.Elements.{All-get_or}
use Rattle.pbd_shape.specs.declared.way.Pushed.{Pushed}
use Rattle.pbd_shape.specs.Way.{way_of}
use Rattle.pbd_shape.proofs.Ways.{way_on, way_out}
use Rattle.pbd_shape.proofs.way.past_all.Goals as goal

pub push-requires-clause-shape : goal.push-requires-clause-shape
push-requires-clause-shape g c =
    let item = c.shape-item.result in
    subst g.S.Touch.is_in_range (sym c.shape-item.is)
    (All-get_or g.S.Touch.is_in_range c.args.shapes.now c.loop-shape.shape-index item c.loop-shape-test.true c.requires.shapes)

pub loop-shape-preserved : goal.loop-shape-preserved
loop-shape-preserved g c =
    let f : FitsSigned w64 c.args.limit = c.ranges.limit in
    let rest = simp to_z-of_z at c.loop-shape.invariant.rest in
    let value = simp to_z-of_z at c.past.ensures.value in
    let told = sym (ap {A = Option Pushed} (option_map way_of) c.in-Some.is) ∙ value in
    record {
      rest = simp to_z-of_z (way_on c.args.limit g.S.Touch.shape c.args.shapes.now c.loop-shape.shape-index c.loop-shape-test.true
          c.shape-item.is (way_of c.loop-shape.now) (way_of c.in-Some.next) c.push.ensures told ∙ rest);
      within = c.in-Some.ensures.within;
    }

pub returns-in_default-clause-value : goal.returns-in_default-clause-value
returns-in_default-clause-value g c =
    let f : FitsSigned w64 c.args.limit = c.ranges.limit in
    let rest = simp to_z-of_z at c.loop-shape.invariant.rest in
    let value = simp to_z-of_z at c.in_default.ensures.value in
    way_out c.args.limit g.S.Touch.shape c.args.shapes.now c.loop-shape.shape-index c.loop-shape-test.true c.shape-item.is
    (way_of c.loop-shape.now) c.push.ensures value ∙ rest
