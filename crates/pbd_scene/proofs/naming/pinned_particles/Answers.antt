use Rattle.std.proofs.Common.{[]}
use Rattle.std.proofs.lemmas.Result.{err_from_is_err_and}
use Rattle.pbd_scene.specs.Checks.{each}
use Rattle.pbd_scene.specs.Naming.{pinned}
use Rattle.pbd_scene.proofs.Reading.{item_ok, item_fails, last_ok}
use Rattle.pbd_scene.proofs.naming.pinned_particles.Goals as goal

pub returns-in_err-i : goal.returns-in_err-i
returns-in_err-i c =
    let read = pinned c.args.count in
    let pins = c.args.pins.now in
    let fails = rw c.as_slice.ensures at c.in_err-i.ensures in
    let p = err_from_is_err_and c.from_residual.result c.from_residual.ensures.1 in
    rw (p.1, p.2) (item_fails read pins c.loop-n.n-index _ c.loop-n.held c.in_err-i.field-0.0
    (each read [] pins) c.loop-n-test.true fails c.loop-n.invariant)

pub loop-n-preserved : goal.loop-n-preserved
loop-n-preserved c =
    let read = pinned c.args.count in
    let pins = c.args.pins.now in
    let is = rw c.as_slice.ensures at c.in_ok-i.ensures in
    rw c.in_ok-push.ensures.ok (item_ok read pins c.loop-n.n-index _ c.loop-n.held c.in_ok-i.i
    (each read [] pins) c.loop-n-test.true is c.loop-n.invariant)

pub returns : goal.returns
returns c =
    let read = pinned c.args.count in
    let pins = c.args.pins.now in
    last_ok read pins c.loop-n.n-index c.loop-n.held (each read [] pins) c.loop-n-test.false c.loop-n.invariant
