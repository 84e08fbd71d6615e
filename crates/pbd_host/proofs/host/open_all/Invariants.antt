use Rattle.std.proofs.Common.{◌≡◌, map, take, All}
use Rattle.pbd_world.specs.World.{opened, IsSound}
use Rattle.pbd_host.proofs.host.open_all.Given as goal

-- so many scenes are opened, each a sound world
abbrev pub invariant-loop-scene : goal.invariant-loop-scene
invariant-loop-scene g l = record {
  worlds : l.sessions.items ≡ map opened (take l.scene-index l.scenes);
  sound : All IsSound l.sessions.items;
}
