use Rattle.pbd_mesh.specs.Rope.{rope_fits}
use Rattle.pbd_scene.specs.Entries.{rope_size}
use Rattle.pbd_scene.proofs.MeshSizes.{fitting, rope_few}
use Rattle.pbd_scene.proofs.mesh_entries.RopeSpecMeshEntry.is_fitting.Goals as goal

pub returns : goal.returns
returns c =
    let facts = fitting rope_fits rope_size rope_few c.args.limit.now c.args.self.now c.fits.result c.fits.ensures in
    record { value = facts.0; few = facts.1 }
