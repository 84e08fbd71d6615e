use Rattle.std.proofs.Common.{arith}
use Rattle.std.specs.List.{sum_by}
use Rattle.pbd_scene.proofs.Sums.{sum_next, sum_small}
use Rattle.pbd_scene.proofs.mesh_entries.all_sizes.Goals as goal

pub size-total-requires : goal.size-total-requires
size-total-requires g c =
    let size = g.M.MeshEntry.size in
    let small = sum_small size c.loop-mesh.total c.args.meshes.now c.loop-mesh.mesh-index c.mesh-item.result
    (sum_by size c.args.meshes.now) c.loop-mesh-test.true c.mesh-item.is c.loop-mesh.invariant in
    omega (arith, small, c.requires)

pub overflow_add-total : goal.overflow_add-total
overflow_add-total g c =
    let size = g.M.MeshEntry.size in
    let small = sum_small size c.loop-mesh.total c.args.meshes.now c.loop-mesh.mesh-index c.mesh-item.result
    (sum_by size c.args.meshes.now) c.loop-mesh-test.true c.mesh-item.is c.loop-mesh.invariant in
    omega (arith, small, c.requires, c.size-total.ensures)

pub loop-mesh-preserved : goal.loop-mesh-preserved
loop-mesh-preserved g c =
    let size = g.M.MeshEntry.size in
    rw c.size-total.ensures (sum_next size c.loop-mesh.total c.args.meshes.now c.loop-mesh.mesh-index c.mesh-item.result
    (sum_by size c.args.meshes.now) c.loop-mesh-test.true c.mesh-item.is c.loop-mesh.invariant)
