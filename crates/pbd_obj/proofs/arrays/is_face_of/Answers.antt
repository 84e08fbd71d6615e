use Rattle.std.proofs.Common.{◌∙◌, sym, refl}
use Rattle.pbd_obj.proofs.ArrayLemmas.{corner_again, corners_next}
use Rattle.pbd_obj.proofs.arrays.is_face_of.Goals as goal

pub returns-then-not-branch : goal.returns-then-not-branch
returns-then-not-branch c = sym (corner_again c.args.vertices c.args.face.now c.loop-corner.corner-index _ _ c.loop-corner.named
    c.loop-corner.invariant c.loop-corner-test.true refl (sym c.if-not-branch.true ∙ c.in_ok-insert.ensures.added))

pub loop-corner-preserved : goal.loop-corner-preserved
loop-corner-preserved c = corners_next c.args.vertices c.args.face.now c.loop-corner.corner-index _ _ c.loop-corner.named c.insert.new.self
    c.loop-corner.invariant c.loop-corner-test.true refl c.if-corner-vertices.false
    (sym c.if-not-branch.false ∙ c.in_ok-insert.ensures.added) c.in_ok-insert.ensures.updates.0
