use Rattle.std.proofs.Common.{refl}
use Rattle.std.proofs.lemmas.Result.{on_ok_weaker}
use Rattle.pbd_scene.proofs.Parted.{cloth_grows}
use Rattle.pbd_scene.proofs.mesh_entries.ClothSpecMeshEntry.add_to.Goals as goal

pub returns-clause-grown : goal.returns-clause-grown
returns-clause-grown c = on_ok_weaker c.cloth.result
    (λ is. rw is (record { limit = refl; particles = cloth_grows c.args.parts.now c.args.self.now })) c.cloth.ensures.ok
