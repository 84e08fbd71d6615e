use Rattle.pbd_world.specs.World.{opened}
use Rattle.pbd_cloth.proofs.Slotting.{are_begun}
use Rattle.pbd_cloth.proofs.cloth.Cloth.open.Goals as goal

pub invariant_of-result : goal.invariant_of-result
invariant_of-result c = (are_begun (opened c.args.scene.now) c.in-Ok.playing c.args.slots c.in_ok-kept.kept.items c.in-Ok.ensures.sound
    c.requires c.in-Ok.ensures.world c.in_ok-kept.ensures).fit

pub returns-in-Ok-clause-cloth : goal.returns-in-Ok-clause-cloth
returns-in-Ok-clause-cloth c = (are_begun (opened c.args.scene.now) c.in-Ok.playing c.args.slots c.in_ok-kept.kept.items
    c.in-Ok.ensures.sound c.requires c.in-Ok.ensures.world c.in_ok-kept.ensures).seen

pub returns-in-Ok-clause-sound : goal.returns-in-Ok-clause-sound
returns-in-Ok-clause-sound c = (are_begun (opened c.args.scene.now) c.in-Ok.playing c.args.slots c.in_ok-kept.kept.items
    c.in-Ok.ensures.sound c.requires c.in-Ok.ensures.world c.in_ok-kept.ensures).fit
