-- The parts of a scene have the limit with which they were read.
use Rattle.std.proofs.Common.{◌≡◌, refl, ℕ, ℤ, Bool, true, false, cond, List, [], Option, Some, None, Ok, Err}
use Rattle.std.specs.Str.{is_utf8}
use Rattle.toml.specs.Data.{Members}
use Rattle.toml.specs.Parse.{parse_document}
use Rattle.pbd_world.specs.declared.parts.Parts.{Parts}
use Rattle.pbd_scene.specs.Checks.{Checked}
use Rattle.pbd_scene.specs.Scene.{scene_of}
use Rattle.pbd_outcome.specs.declared.status.Status.TheVariants.{SceneNotText}
use Rattle.pbd_outcome.specs.Outcome.{Outcome, parts_in, scene_in, stops, tree_in}
use Rattle.pbd_scene.proofs.Limits.{scene_limit}

came : (c : Checked Parts) (parts : Parts) → parts_in c ≡ Ok parts → c ≡ Ok parts
came (Ok q) parts is = let e : q ≡ parts = cc in rw e refl
came (Err b) parts is = cc

tree_limit : (limit : ℤ) (tree : Option Members) (parts : Parts) → tree_in limit tree ≡ Ok parts → parts.limit ≡ limit
tree_limit limit None parts is = cc
tree_limit limit (Some t) parts is = scene_limit limit t parts (came (scene_of limit t) parts is)

if_text : (b : Bool) (limit : ℤ) (tree : Option Members) (o : Outcome) (parts : Parts) → cond b (tree_in limit tree) (Err o) ≡ Ok parts
    → parts.limit ≡ limit
if_text true limit tree o parts is = tree_limit limit tree parts is
if_text false limit tree o parts is = cc

pub its_limit : (limit : ℤ) (bytes : List ℕ) (parts : Parts) → scene_in limit bytes ≡ Ok parts → parts.limit ≡ limit
unfolding scene_in
its_limit limit bytes parts is = if_text (is_utf8 bytes) limit (parse_document bytes) (stops SceneNotText []) parts is
