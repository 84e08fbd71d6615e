use Rattle.pbd_world.proofs.Neighbouring.{holds_read}
use Rattle.pbd_world.proofs.neighbours.NeighbourLists.of.Goals as goal

pub loop-link-preserved : goal.loop-link-preserved
loop-link-preserved c = holds_read c.args.count c.args.links.now c.loop-link.link-index _ c.loop-link.lists c.add.new.self
    c.loop-link-test.true c.loop-link.invariant c.in_ok-add.ensures
