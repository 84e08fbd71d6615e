use Rattle.std.proofs.Common.{◌∙◌, sym, ap, arith}
use Rattle.pbd_obj.specs.MeshLinks.{particles, with_all}
use Rattle.pbd_obj.proofs.AddLemmas.{added_at, links_from_at, mesh_fits, valid_few}
use Rattle.pbd_obj.proofs.links.add_mesh_with.Goals as goal

pub overflow_sub-base : goal.overflow_sub-base
overflow_sub-base c = omega (arith, (valid_few c.args.parts.now c.requires.valid).0, c.len-base.ensures)

pub overflow_sub-room : goal.overflow_sub-room
overflow_sub-room c = omega (arith, (valid_few c.args.parts.now c.requires.valid).1, c.len-room.ensures)

pub overflow_cast-base : goal.overflow_cast-base
overflow_cast-base c = omega (arith, (valid_few c.args.parts.now c.requires.valid).0, c.len-base.ensures)

pub mesh_links-requires-clause-fits : goal.mesh_links-requires-clause-fits
mesh_links-requires-clause-fits c =
    mesh_fits c.args.mesh.now c.len-base.result c.requires.mesh
    (omega (arith, (valid_few c.args.parts.now c.requires.valid).0, c.len-base.ensures, c.len-vertices.ensures, c.if-vertices-base.false))

pub overflow_cast-base-2 : goal.overflow_cast-base-2
overflow_cast-base-2 c = omega (arith, (valid_few c.args.parts.now c.requires.valid).0, c.len-base.ensures)

pub first_overfull-requires : goal.first_overfull-requires
first_overfull-requires c =
    links_from_at c.args.settings.now c.args.mesh.now c.len-base.result c.len-vertices.result c.as_slice.result.now c.in_ok-links.links
    c.requires.mesh c.len-vertices.ensures c.as_slice.ensures c.in_ok-links.ensures.links

pub returns-clause-ok : goal.returns-clause-ok
returns-clause-ok c =
    let few = valid_few c.args.parts.now c.requires.valid in
    let new = c.in_ok-append.ensures.ok ∙ ap (λ ls. with_all (particles c.args.settings.now.weight c.args.mesh.now) ls c.args.parts.now)
    c.as_slice-2.ensures in
    added_at c.args.settings.now c.args.mesh.now c.args.parts.now c.append.new.parts c.len-base.result c.len-vertices.result
    c.len-room.result c.as_slice.result.now c.in_ok-links.links c.len-base.ensures
    (omega (arith, few.0, c.len-base.ensures)) c.len-vertices.ensures c.if-vertices-base.false c.len-room.ensures
    (omega (arith, few.1, c.len-room.ensures)) c.in_ok-links.ensures.few c.in_ok-links.ensures.links
    c.as_slice.ensures (sym c.in_default.is ∙ c.in_ok-end.ensures.first) new
