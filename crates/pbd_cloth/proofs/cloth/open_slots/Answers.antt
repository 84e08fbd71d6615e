use Rattle.std.proofs.Common.{◌∙◌}
use Rattle.pbd_world.specs.World.{opened}
use Rattle.pbd_cloth.proofs.Slotting.{one_more}
use Rattle.pbd_cloth.proofs.cloth.open_slots.Goals as goal

pub loop-preserved : goal.loop-preserved
loop-preserved c = c.in_ok-push.ensures.items ∙ one_more
    (opened c.args.scene.now) c.loop.counter c.loop.kept.items c.in_ok-saved.saved c.loop.invariant c.in_ok-saved.ensures.world
