use Rattle.pbd_world.proofs.Neighbouring.{adds_one, adds_both}
use Rattle.pbd_world.proofs.neighbours.put_both.Goals as goal

pub returns-in_ok-put-2 : goal.returns-in_ok-put-2
returns-in_ok-put-2 c = adds_both c.args.link.now c.args.ends.now.items c.put.new.ends.items c.put-then-link.new.ends.items c.if-link.true
    c.in_ok-put.ensures c.in_ok-put-2.ensures

pub returns-else-link : goal.returns-else-link
returns-else-link c = adds_one c.args.link.now c.args.ends.now.items c.put.new.ends.items c.if-link.false c.in_ok-put.ensures
