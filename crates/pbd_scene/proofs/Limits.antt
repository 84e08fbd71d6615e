-- The parts of a scene have the limit with which they were read.
use Rattle.std.proofs.Common.{◌≡◌, ◌∙◌, sym, ap, refl, ℤ, List, [], ◌∷◌, length, Ok}
use Rattle.std.specs.Prelude.{fold}
use Rattle.toml.specs.Data.{Members}
use Rattle.pbd_mesh.specs.declared.spec.ClothSpec.{ClothSpec}
use Rattle.pbd_mesh.specs.declared.spec.RopeSpec.{RopeSpec}
use Rattle.pbd_world.specs.declared.parts.Parts.{Parts}
use Rattle.pbd_scene.specs.Checks.{each}
use Rattle.pbd_scene.specs.declared.raw.LinkEntry.{LinkEntry}
use Rattle.pbd_scene.specs.declared.raw.TrackEntry.{TrackEntry}
use Rattle.pbd_scene.specs.declared.raw.Settings.{Settings}
use Rattle.pbd_scene.specs.declared.raw.Tables.{Tables}
use Rattle.pbd_scene.specs.Naming.{all_links, pinned, placed_track}
use Rattle.pbd_scene.specs.Scene.{scene_of, settings_of, tables_of, with_entries, with_meshes, with_cloth, with_rope, plain_parts}
use Rattle.pbd_scene.proofs.Accepted.{through, same_ok}

pub cloths_keep_limit : (parts : Parts) (cloths : List ClothSpec) → (fold with_cloth parts cloths).limit ≡ parts.limit
cloths_keep_limit parts [] = refl
cloths_keep_limit parts (s ∷ ss) = cloths_keep_limit (with_cloth parts s) ss

ropes_keep_limit : (parts : Parts) (ropes : List RopeSpec) → (fold with_rope parts ropes).limit ≡ parts.limit
ropes_keep_limit parts [] = refl
ropes_keep_limit parts (s ∷ ss) = ropes_keep_limit (with_rope parts s) ss

meshes_limit : (limit : ℤ) (s : Settings) (t : Tables) → (with_meshes limit s t).limit ≡ limit
unfolding with_meshes
meshes_limit limit s t = ropes_keep_limit (fold with_cloth (plain_parts limit s t) t.cloths) t.ropes
    ∙ cloths_keep_limit (plain_parts limit s t) t.cloths

entries_limit : (pins : List ℤ) (ls : List LinkEntry) (ts : List TrackEntry) (m parts : Parts) → with_entries pins ls ts m ≡ Ok parts
    → parts.limit ≡ m.limit
unfolding with_entries
entries_limit pins ls ts m parts is =
    through (all_links m.particles m.links ls) _ parts is (λ links e1 is1.
    through (each (pinned (length m.particles)) [] pins) _ parts is1 (λ held e2 is2.
    through (each (placed_track (length m.particles)) [] ts) _ parts is2 (λ tracks e3 is3.
    sym (ap (λ (q : Parts). q.limit) (same_ok _ parts is3)))))

pub scene_limit : (limit : ℤ) (tree : Members) (parts : Parts) → scene_of limit tree ≡ Ok parts → parts.limit ≡ limit
unfolding scene_of
scene_limit limit tree parts is =
    through (settings_of limit tree) _ parts is (λ s e1 is1.
    through (tables_of limit tree) _ parts is1 (λ t e2 is2.
    entries_limit s.pins t.links t.tracks (with_meshes limit s t) parts is2 ∙ meshes_limit limit s t))
