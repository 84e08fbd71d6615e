use Rattle.std.proofs.Common.{refl}
use Rattle.std.proofs.lemmas.Result.{on_ok_weaker}
use Rattle.pbd_scene.proofs.Parted.{rope_grows}
use Rattle.pbd_scene.proofs.mesh_entries.RopeSpecMeshEntry.add_to.Goals as goal

pub returns-clause-grown : goal.returns-clause-grown
returns-clause-grown c = on_ok_weaker c.rope.result
    (λ is. rw is (record { limit = refl; particles = rope_grows c.args.parts.now c.args.self.now })) c.rope.ensures.ok
