use Rattle.pbd_mesh.proofs.Meshes.{cloth_mesh, cloth_size}
use Rattle.pbd_mesh.proofs.laws.cloths_are_meshes.Goals as goal

pub returns-clause-mesh : goal.returns-clause-mesh
returns-clause-mesh c = cloth_mesh

pub returns-clause-size : goal.returns-clause-size
returns-clause-size c = cloth_size
