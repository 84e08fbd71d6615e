use Rattle.std.proofs.lemmas.Result.{err_from_is_err_and}
use Rattle.pbd_obj.proofs.NetLemmas.{face_named_at, faces_next_at, faces_stop_at}
use Rattle.pbd_obj.proofs.links.add_kind.Goals as goal

pub add_face-requires-clause-face : goal.add_face-requires-clause-face
add_face-requires-clause-face c = face_named_at c.args.settings.now c.args.mesh.now c.args.kind c.args.found.now c.loop-size.found
    c.as_slice-sizes.result.now c.loop-size.size-index c.loop-size.rest.now c.split_at.result.0.now c.loop-size.invariant
    c.loop-size-test.true c.split_at.ensures.front

pub returns-in_err-add_face-clause-err : goal.returns-in_err-add_face-clause-err
returns-in_err-add_face-clause-err c =
    let p = err_from_is_err_and c.from_residual.result c.from_residual.ensures.1 in
    rw (p.1, p.2) (faces_stop_at c.args.settings.now c.args.mesh.now c.args.kind c.args.found.now c.loop-size.found
    c.as_slice-sizes.result.now c.loop-size.size-index c.loop-size.rest.now c.split_at.result.0.now c.in_err-add_face.field-0.0
    c.loop-size.invariant c.loop-size-test.true c.split_at.ensures.front c.in_err-add_face.ensures.err)

pub loop-size-preserved : goal.loop-size-preserved
loop-size-preserved c = faces_next_at c.args.settings.now c.args.mesh.now c.args.kind c.args.found.now c.loop-size.found
    c.add_face.new.found c.as_slice-sizes.result.now c.loop-size.size-index c.loop-size.rest.now c.split_at.result.0.now
    c.split_at.result.1.now c.loop-size.invariant c.loop-size-test.true c.split_at.ensures.front c.split_at.ensures.back
    c.in_ok-add_face.ensures.ok
