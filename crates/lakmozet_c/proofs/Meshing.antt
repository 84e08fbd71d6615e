-- A scene that was read has the limit with which it was read, and no reason that a mesh isn't added has to do with slots.
use Rattle.std.proofs.Common.{◌≡◌, ℕ, List, Option, Some, None, Result}
use Rattle.std.specs.Prelude.{◌^◌, ◌≤◌, pos}
use Rattle.toml.specs.Data.{Members}
use Rattle.pbd_world.specs.declared.parts.Parts.{Parts}
use Rattle.pbd_obj.specs.declared.arrays.ArraysFault.{ArraysFault}
use Rattle.pbd_obj.specs.declared.mesh.ObjMesh.{ObjMesh}
use Rattle.pbd_obj.specs.declared.settings.MeshSettings.{MeshSettings}
use Rattle.lakmozet_c.specs.declared.meshes.NoWhole.{NoWhole}
use Rattle.lakmozet_c.specs.declared.meshes.NoWhole.TheVariants.{ByScene, ByMesh}
use Rattle.lakmozet_c.specs.Faults.{IsSceneIn}
use Rattle.lakmozet_c.specs.Meshed.{IsMeshWhy}
use Rattle.lakmozet_c.proofs.Reading as reading
use Rattle.pbd_scene.proofs.Limits.{scene_limit}

pub its_limit : (tree : Option Members) (parts : Parts) → IsSceneIn (pos (2 ^ 29)) tree parts → parts.limit ≡ pos 536870912
its_limit (Some tree) parts is = scene_limit (pos (2 ^ 29)) tree parts is
its_limit None parts is = absurd is

pub with_any_slots : (bytes : List ℕ) (slots : ℕ) (t : MeshSettings) (meant : Result ObjMesh ArraysFault) (why : NoWhole) → slots ≤ 16
    → IsMeshWhy bytes 0 t meant why → IsMeshWhy bytes slots t meant why
with_any_slots bytes slots t meant (ByScene why) few is = reading.with_any_slots (pos (2 ^ 29)) bytes slots why is
with_any_slots bytes slots t meant (ByMesh why) few is =
    record { text = is.text; parts = is.parts; accepted = is.accepted; few = few; unfit = is.unfit }
