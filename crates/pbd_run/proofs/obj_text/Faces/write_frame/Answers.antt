use Rattle.std.proofs.Common.{◌++◌, arith}
use Rattle.std.specs.List.{flat_map}
use Rattle.std.proofs.lemmas.Result.{err_from_is_err_and}
use Rattle.pbd_io.specs.Appending.{piece_then, prefix_longer, prefix_then, rose_later}
use Rattle.pbd_world.specs.Text.{header_line}
use Rattle.pbd_outcome.specs.ObjText.{comment, particle_line}
use Rattle.pbd_run.proofs.ObjTextLaws.{frame_is}
use Rattle.pbd_run.proofs.LargeLaws.{cause_then}
use Rattle.pbd_run.proofs.obj_text.Faces.write_frame.Goals as goal

pub returns-in_err-write_header_after-clause-bytes : goal.returns-in_err-write_header_after-clause-bytes
returns-in_err-write_header_after-clause-bytes g c =
    let p = err_from_is_err_and c.from_residual.result c.from_residual.ensures.1 in
    rw (p.1, frame_is c.args.self.now.base c.args.self.now.mesh.now c.args.session.now)
    (prefix_longer _ _ (comment ++ header_line c.args.session.now) _ c.in_err-write_header_after.ensures.bytes)

pub returns-in_err-write_particles-clause-bytes : goal.returns-in_err-write_particles-clause-bytes
returns-in_err-write_particles-clause-bytes g c =
    let p = err_from_is_err_and c.from_residual-in_err-write_particles.result c.from_residual-in_err-write_particles.ensures.1 in
    rw (p.1, frame_is c.args.self.now.base c.args.self.now.mesh.now c.args.session.now)
    (prefix_then _ _ _ _ _ c.in_ok-write_header_after.ensures.bytes
    (prefix_longer _ _ (flat_map particle_line c.args.session.now.particles) _ c.in_err-write_particles.ensures.bytes))

pub returns-in_err-write_particles-clause-cause : goal.returns-in_err-write_particles-clause-cause
returns-in_err-write_particles-clause-cause g c =
    let p = err_from_is_err_and c.from_residual-in_err-write_particles.result c.from_residual-in_err-write_particles.ensures.1 in
    let first = c.write_header_after.ensures.cause in
    let second = c.in_err-write_particles.ensures.cause in
    rw p.1 (record { later = omega (arith, first.later, second.later); failed = rose_later _ _ _ first.later second.failed })

pub returns-clause-bytes : goal.returns-clause-bytes
returns-clause-bytes g c =
    rw (frame_is c.args.self.now.base c.args.self.now.mesh.now c.args.session.now)
    (piece_then _ _ _ c.write_faces.result _ _ c.in_ok-write_header_after.ensures.bytes
    (piece_then _ _ _ c.write_faces.result _ _ c.in_ok-write_particles.ensures.bytes c.write_faces.ensures.bytes))

pub returns-clause-cause : goal.returns-clause-cause
returns-clause-cause g c = cause_then _ _ _ c.write_faces.result c.write_header_after.ensures.cause.later
    (cause_then _ _ _ c.write_faces.result c.write_particles.ensures.cause.later c.write_faces.ensures.cause)
