use Rattle.std.proofs.lemmas.Result.{err_from_is_err_and}
use Rattle.pbd_obj.proofs.NetLemmas.{ring_next, ring_stops}
use Rattle.pbd_obj.proofs.links.add_ring.Goals as goal

pub returns-in_err-add-clause-err : goal.returns-in_err-add-clause-err
returns-in_err-add-clause-err c =
    let p = err_from_is_err_and c.from_residual.result c.from_residual.ensures.1 in
    rw (p.1, p.2) (ring_stops c.args.settings c.args.mesh.now c.args.face.now c.args.found.now c.loop-i.found c.loop-i.i c.link-side.result
    c.in_err-add.field-0.0 c.loop-i.invariant c.loop-i-test.true c.link-side.ensures c.in_err-add.ensures.err)

pub loop-i-preserved : goal.loop-i-preserved
loop-i-preserved c = ring_next c.args.settings c.args.mesh.now c.args.face.now c.args.found.now c.loop-i.found c.add.new.found c.loop-i.i
    c.link-side.result c.loop-i.invariant c.loop-i-test.true c.link-side.ensures c.in_ok-add.ensures.ok
