use Rattle.std.proofs.Common.{arith}
use Rattle.pbd_obj.proofs.MeshLemmas.{pushed_few}
use Rattle.pbd_obj.proofs.reading.add_face.Goals as goal

pub overflow_cast-len : goal.overflow_cast-len
overflow_cast-len c =
    let few = pushed_few c.len-vertices.result c.args.rest.now c.args.mesh.now.corners c.push_face.new.corners c.in_ok-push_face.field-0
    c.in_ok-push_face.ensures c.if-not-branch.false in
    omega (arith, few, c.requires.words, c.len.ensures, c.len-start.ensures)
