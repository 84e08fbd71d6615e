use Rattle.std.proofs.Common.{◌∙◌, ap}
use Rattle.pbd_world.specs.World.{opened}
use Rattle.pbd_host.proofs.OpeningLaws.{all_opened, all_sound}
use Rattle.pbd_host.proofs.host.Host.open.Goals as goal

pub returns-in-Ok-clause-sound : goal.returns-in-Ok-clause-sound
returns-in-Ok-clause-sound g c = all_sound c.in-Ok.first c.in_ok-others.others.items c.in-Ok.ensures.sound c.in_ok-others.ensures.sound

pub returns-in-Ok-clause-worlds : goal.returns-in-Ok-clause-worlds
returns-in-Ok-clause-worlds g c = all_opened c.args.scenes.now c.index-scenes-0.result c.in-Ok.first c.in_ok-others.others.items
    c.requires.some (c.in-Ok.ensures.world ∙ ap opened c.index-scenes-0.is) c.in_ok-others.ensures.worlds
