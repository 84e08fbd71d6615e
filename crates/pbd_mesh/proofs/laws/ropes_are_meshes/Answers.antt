use Rattle.pbd_mesh.proofs.Meshes.{rope_mesh, rope_size}
use Rattle.pbd_mesh.proofs.laws.ropes_are_meshes.Goals as goal

pub returns-clause-mesh : goal.returns-clause-mesh
returns-clause-mesh c = rope_mesh

pub returns-clause-size : goal.returns-clause-size
returns-clause-size c = rope_size
