use Rattle.std.proofs.Common.{arith, rules}
use Rattle.std.proofs.lemmas.Result.{err_from_is_err_and}
use Rattle.pbd_run.proofs.ObjTextLaws.{faces_begin_at, faces_fail, faces_next, face_small}
use Rattle.pbd_run.proofs.obj_text.Faces.write_faces.Goals as goal

pub loop-size-init : goal.loop-size-init
loop-size-init g c = record {
  written = faces_begin_at c.args.self.now.base c.args.self.now.mesh.now c.as_slice-sizes.result.now c.as_slice-rest.result.now _
      c.as_slice-sizes.ensures c.as_slice-rest.ensures c.requires.drawable;
  later = search rules;
}

pub write_face-requires : goal.write_face-requires
write_face-requires g c = face_small c.args.self.now.base c.args.self.now.mesh.now c.as_slice-sizes.result.now c.loop-size.size-index
    c.loop-size.rest.now c.split_at.result.0.now _ _ c.loop-size.invariant.written c.loop-size-test.true c.split_at.ensures.front

pub returns-in_err-write_face-clause-bytes : goal.returns-in_err-write_face-clause-bytes
returns-in_err-write_face-clause-bytes g c =
    let p = err_from_is_err_and c.from_residual.result c.from_residual.ensures.1 in
    rw p.1 (faces_fail c.args.self.now.base c.args.self.now.mesh.now c.as_slice-sizes.result.now c.loop-size.size-index c.loop-size.rest.now
    c.split_at.result.0.now _ _ _ c.loop-size.invariant.written c.loop-size-test.true c.split_at.ensures.front
    c.in_err-write_face.ensures.bytes)

pub loop-size-preserved : goal.loop-size-preserved
loop-size-preserved g c = record {
  written = faces_next c.args.self.now.base c.args.self.now.mesh.now c.as_slice-sizes.result.now c.loop-size.size-index c.loop-size.rest.now
      c.split_at.result.0.now c.split_at.result.1.now _ _ _ c.loop-size.invariant.written c.loop-size-test.true c.split_at.ensures.front
      c.split_at.ensures.back c.in_ok-write_face.ensures.bytes;
  later = omega (arith, c.loop-size.invariant.later, c.write_face.ensures.cause);
}
