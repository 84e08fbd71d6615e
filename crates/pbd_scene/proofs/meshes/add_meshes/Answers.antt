use Rattle.pbd_scene.proofs.Limits.{cloths_keep_limit}
use Rattle.pbd_scene.proofs.Parted.{cloths_grow}
use Rattle.pbd_scene.proofs.meshes.add_meshes.Goals as goal

pub add_all-requires-2 : goal.add_all-requires-2
add_all-requires-2 c =
    let same = cloths_keep_limit c.args.parts.now c.args.cloths.now in
    record {
      limit = rw (c.in_ok-add_all.ensures, same) c.requires.limit;
      fit = rw (c.in_ok-add_all.ensures, same) c.requires.ropes;
      room = rw (c.in_ok-add_all.ensures, cloths_grow c.args.parts.now c.args.cloths.now) c.requires.room;
    }
