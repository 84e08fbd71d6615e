use Rattle.std.proofs.Common.{◌∙◌, sym}
use Rattle.pbd_script.specs.Lines.{words}
use Rattle.pbd_obj.proofs.FaceLemmas.{named_next, renamed}
use Rattle.pbd_obj.proofs.reading.push_face.Goals as goal

pub returns-then-not-branch : goal.returns-then-not-branch
returns-then-not-branch c =
    renamed c.args.vertices c.args.corners.now (words c.args.rest.now) c.in-Some.word.now (words c.loop-word.ahead.now)
    (words c.in-Some.behind.now) c.loop-word.corners c.loop-word.named c.in-Some-corner.corner c.loop-word.invariant
    c.in-Some.ensures.words c.in-Some-corner.ensures (sym c.if-not-branch.true ∙ c.in_ok-insert.ensures.added)

pub loop-word-preserved : goal.loop-word-preserved
loop-word-preserved c =
    named_next c.args.vertices c.args.corners.now (words c.args.rest.now) c.in-Some.word.now (words c.loop-word.ahead.now)
    (words c.in-Some.behind.now) c.loop-word.corners c.push.new.self c.loop-word.named c.insert.new.self c.in-Some-corner.corner
    c.loop-word.invariant c.in-Some.ensures.words c.in-Some-corner.ensures
    (sym c.if-not-branch.false ∙ c.in_ok-insert.ensures.added) c.in_ok-insert.ensures.updates.0 c.in_ok-push.ensures.ok
