use Rattle.pbd_scene.proofs.Meshing.{MeshesSoFar}
use Rattle.pbd_scene.proofs.meshes.add_all.Given as goal

abbrev pub invariant-loop-mesh : goal.invariant-loop-mesh
invariant-loop-mesh g l = MeshesSoFar g.M.MeshEntry.added g.M.MeshEntry.size l.fn.parts l.meshes l.mesh-index l.parts
