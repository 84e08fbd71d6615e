use Rattle.std.proofs.Common.{◌∙◌, sym}
use Rattle.pbd_scene.specs.Keys.{known}
use Rattle.pbd_scene.proofs.Views.{all_known_view}
use Rattle.pbd_scene.proofs.values.known.Goals as goal

pub returns : goal.returns
unfolding known
returns c =
    let all = c.are_known-all.ensures ∙ sym (all_known_view c.args.place.table c.args.members.now.entries) in
    rw all at c.expect.ensures.value
