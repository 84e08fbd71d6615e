-- The names of scenes.
use Rattle.std.specs.Prelude.{ℕ, ◌<◌, ◌^◌, List, length}
use Rattle.std.specs.List.{AllByRecursion}
use Rattle.sha2.specs.Sha256.{sha256}
use Rattle.pbd_world.specs.declared.parts.Track.{Track}
use Rattle.pbd_world.specs.World.{World}
use Rattle.pbd_encoding.specs.Scene.{scene_bytes}

-- the name of a world's scene
abbrev pub scene_name : World → List ℕ
scene_name w = sha256 (scene_bytes w)

-- four bytes can count the keys of each
abbrev pub HaveFewKeys : List Track → Type 0
HaveFewKeys tracks = AllByRecursion {X = Track} (λ t. length t.keys < 2 ^ 32) tracks
