use Rattle.pbd_mesh.specs.Cloth.{cloth_fits}
use Rattle.pbd_scene.specs.Entries.{cloth_size}
use Rattle.pbd_scene.proofs.MeshSizes.{fitting, cloth_few}
use Rattle.pbd_scene.proofs.mesh_entries.ClothSpecMeshEntry.is_fitting.Goals as goal

pub returns : goal.returns
returns c =
    let facts = fitting cloth_fits cloth_size cloth_few c.args.limit.now c.args.self.now c.fits.result c.fits.ensures in
    record { value = facts.0; few = facts.1 }
