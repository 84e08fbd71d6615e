use Rattle.std.proofs.Common.{◌≡◌, drop}
use Rattle.std.specs.List.{sum_by}
use Rattle.pbd_scene.proofs.Sums.{sum_on}
use Rattle.pbd_scene.proofs.mesh_entries.all_sizes.Given as goal

abbrev pub invariant-loop-mesh : goal.invariant-loop-mesh
invariant-loop-mesh g l = sum_on g.M.MeshEntry.size l.total (drop l.mesh-index l.meshes) ≡ sum_by g.M.MeshEntry.size l.meshes
