use Rattle.std.proofs.lemmas.Result.{err_from_is_err_and}
use Rattle.pbd_scene.proofs.EntryLinks.{entry_more, entry_stops, links_end}
use Rattle.pbd_scene.proofs.linking.add_links.Goals as goal

pub returns-in_err-link : goal.returns-in_err-link
returns-in_err-link c =
    let fails = rw c.as_slice-in-loop-i.ensures at c.in_err-link.ensures in
    let p = err_from_is_err_and c.from_residual-in_err-link.result c.from_residual-in_err-link.ensures.1 in
    rw (p.1, p.2) (entry_stops c.args.particles.now c.args.links.now c.args.entries.now c.loop-i.i _ c.loop-i.links c.loop-i.lists
    c.in_err-link.field-0.0 c.loop-i-test.true c.loop-i.invariant fails)

pub loop-i-preserved : goal.loop-i-preserved
loop-i-preserved c =
    let is = rw c.as_slice-in-loop-i.ensures at c.in_ok-link.ensures in
    entry_more c.args.particles.now c.args.links.now c.args.entries.now c.loop-i.i _ c.loop-i.links c.push.new.self c.loop-i.lists
    c.add.new.self c.in_ok-link.link c.loop-i-test.true c.loop-i.invariant is c.in_ok-add.ensures c.in_ok-push.ensures.ok

pub returns : goal.returns
returns c = links_end c.args.particles.now c.args.links.now c.args.entries.now c.loop-i.i c.loop-i.links c.loop-i.lists c.loop-i-test.false
    c.loop-i.invariant
