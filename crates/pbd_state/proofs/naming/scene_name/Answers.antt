use Rattle.std.proofs.Common.{◌≡◌, sym, ap, ◌∙◌, subst, List}
use Rattle.sha2.specs.Sha256.{sha256}
use Rattle.pbd_world.specs.declared.parts.Track.{Track}
use Rattle.pbd_world.specs.declared.parts.ShapeLists.{ShapeLists}
use Rattle.pbd_encoding.specs.Scene.{settings_of, scene_head_bytes, AreFewShapes}
use Rattle.pbd_encoding.proofs.Fitting.{fixed_fit}
use Rattle.pbd_encoding.proofs.Shapes.{few_shapes}
use Rattle.pbd_state.specs.Naming.{HaveFewKeys}
use Rattle.pbd_state.proofs.Feeding.{few_keys, scene_fed}
use Rattle.pbd_state.proofs.naming.scene_name.Goals as goal

pub feed_tracks-requires-clause-keys : goal.feed_tracks-requires-clause-keys
feed_tracks-requires-clause-keys g c =
    subst (λ (ts : List Track). HaveFewKeys ts) (sym c.tracks.ensures.value) (few_keys c.args.shown.now c.opening.ensures.sound)

pub feed_shapes-requires : goal.feed_shapes-requires
feed_shapes-requires g c =
    let few = few_shapes c.args.shown.now.shapes (fixed_fit c.args.shown.now c.opening.ensures.sound).shapes in
    subst (λ (lists : ShapeLists). AreFewShapes lists) (sym c.shapes.ensures.value) few

pub returns-clause-value : goal.returns-clause-value
returns-clause-value g c =
    let w = c.args.shown.now in
    let head : c.as_slice.result.now ≡ scene_head_bytes (settings_of w) w.opening =
    c.as_slice.ensures ∙ c.scene_head-head.ensures ∙ (λ i. scene_head_bytes (c.settings_of.ensures i) (c.opening.ensures.value i)) in
    let begun = c.feed_weights.ensures.fed _ (c.update.ensures _ c.new-hasher.ensures) in
    let tracked = c.feed_tracks.ensures _ (c.feed_all.ensures _ begun) in
    let all = c.feed_shapes.ensures _ tracked in
    c.finalize.ensures _ all ∙ ap sha256 (scene_fed w _ _ _ _ head c.links.ensures.value c.tracks.ensures.value c.shapes.ensures.value)
