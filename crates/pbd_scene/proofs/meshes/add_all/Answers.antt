use Rattle.std.proofs.Common.{◌≡◌, true}
use Rattle.pbd_scene.proofs.Meshing.{mesh_next, meshes_more}
use Rattle.pbd_scene.proofs.meshes.add_all.Goals as goal

pub add_to-requires : goal.add_to-requires
add_to-requires g c =
    let M = g.M.MeshEntry in
    let next = mesh_next M.added M.size (λ m. M.fits c.args.parts.now.limit m ≡ true) c.args.parts.now c.args.meshes.now c.loop-mesh.mesh-index
    c.loop-mesh.parts c.mesh-item.result c.loop-mesh-test.true c.mesh-item.is c.loop-mesh.invariant c.requires.fit in
    let limit = c.loop-mesh.invariant.limit in
    record { limit = rw limit c.requires.limit; fits = rw limit next.0; room = next.1 }

pub loop-mesh-preserved : goal.loop-mesh-preserved
loop-mesh-preserved g c = meshes_more g.M.MeshEntry.added g.M.MeshEntry.size c.args.parts.now c.args.meshes.now c.loop-mesh.mesh-index
    c.loop-mesh.parts c.add_to.new.parts c.mesh-item.result c.loop-mesh-test.true c.mesh-item.is c.loop-mesh.invariant
    c.in_ok-add_to.ensures.added c.in_ok-add_to.ensures.grown
