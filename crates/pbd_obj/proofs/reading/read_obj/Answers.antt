use Rattle.std.proofs.Common.{◌∙◌, sym}
use Rattle.pbd_obj.proofs.MeshLemmas.{read_is_mesh}
use Rattle.pbd_obj.proofs.ReadLemmas.{read_ends}
use Rattle.pbd_obj.proofs.reading.read_obj.Goals as goal

pub returns-in-None-clause-mesh : goal.returns-in-None-clause-mesh
returns-in-None-clause-mesh c =
    let last = rw c.in-None.is at c.first_line.ensures.lines in
    read_is_mesh c.args.text.now c.add_line.new.mesh (sym c.loop-mesh.invariant.reads
    ∙ read_ends c.loop-mesh.number c.loop-mesh.mesh c.add_line.new.mesh c.loop-mesh.rest.now c.first_line.result.0.now last
    c.in_ok-add_line.ensures.ok)
