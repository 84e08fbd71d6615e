-- The bytes of a scene, as a hasher takes them up piece by piece.
use Rattle.std.proofs.Common.{◌≡◌, ℕ, List, [], ◌∷◌, ◌++◌}
use Rattle.std.specs.List.{AllByRecursion}
use Rattle.pbd_world.specs.declared.parts.Track.{Track}
use Rattle.pbd_world.specs.declared.parts.Link.{Link}
use Rattle.pbd_world.specs.declared.parts.ShapeLists.{ShapeLists}
use Rattle.pbd_world.specs.World.{World, IsSound}
use Rattle.pbd_encoding.specs.Scene.{listed, scene_head_bytes, settings_of, weight_bytes, link_bytes, track_bytes, shape_bytes}
use Rattle.pbd_encoding.specs.Scene.{scene_bytes}
use Rattle.pbd_encoding.proofs.Fitting.{TrackFits, fixed_fit}
use Rattle.pbd_state.specs.Naming.{HaveFewKeys}

-- all that was fed is the bytes of the scene
pub scene_fed : (w : World) (head : List ℕ) (links : List Link) (tracks : List Track) (shapes : ShapeLists)
    → head ≡ scene_head_bytes (settings_of w) w.opening → links ≡ w.links → tracks ≡ w.tracks → shapes ≡ w.shapes
    → head ++ listed weight_bytes w.particles ++ listed link_bytes links ++ listed track_bytes tracks ++ shape_bytes shapes ≡ scene_bytes w
unfolding scene_bytes
scene_fed w head links tracks shapes eh el et es = λ i.
    eh i ++ listed weight_bytes w.particles ++ listed link_bytes (el i) ++ listed track_bytes (et i) ++ shape_bytes (es i)

-- ---- tracks

keys_of : (tracks : List Track) → AllByRecursion TrackFits tracks → HaveFewKeys tracks
keys_of [] h = tt
keys_of (t ∷ tracks) h = (h.0.keys.few, keys_of tracks h.1)

pub few_keys : (w : World) → IsSound w → HaveFewKeys w.tracks
few_keys w sound = keys_of w.tracks (fixed_fit w sound).tracks.each
