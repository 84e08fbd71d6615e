use Rattle.pbd_scene.specs.Naming.{holding}
use Rattle.pbd_scene.proofs.Flagged.{held_at, held_all}
use Rattle.pbd_scene.proofs.naming.holding.Goals as goal

pub loop-i-preserved : goal.loop-i-preserved
loop-i-preserved c =
    let names = c.args.names.now in
    let ps = c.args.particles.now in
    held_at names ps c.loop-i.i _ c.in_ok-flags.flags.items c.index.result.now c.held_if.result c.loop-i.held c.push.new.self
    (holding names 0 ps) c.loop-i-test.true c.in_ok-flags.ensures c.index.ensures c.held_if.ensures c.in_ok-push.ensures.ok
    c.loop-i.invariant

pub returns : goal.returns
returns c =
    let names = c.args.names.now in
    let ps = c.args.particles.now in
    held_all names ps c.loop-i.i c.loop-i.held (holding names 0 ps) c.loop-i-test.false c.loop-i.invariant
