use Rattle.pbd_outcome.specs.Generated.{words_of}
use Rattle.pbd_run.proofs.GeneratedLaws.{near_head, off_next}
use Rattle.pbd_run.proofs.generated.all_set_off.Goals as goal

pub set_off-requires-clause-at : goal.set_off-requires-clause-at
set_off-requires-clause-at c = near_head c.each.rest.now c.in-Some.later.now c.in-Some.p.now c.in-Some.ensures.cases.0 c.each.invariant.near

pub each-preserved : goal.each-preserved
each-preserved c =
    off_next c.args.size (words_of c.args.number) c.args.particles.now c.each.list c.push.new.self c.each.n c.each.words
    c.velocity_of-velocity.new.words c.in-Some.p.now c.each.rest.now c.in-Some.later.now
    c.each.invariant c.in-Some.ensures.cases.0
    (rw (c.set_off.ensures, c.is_hung.ensures, c.velocity_of-velocity.ensures.value) at c.in_ok-push.ensures.ok)
    c.velocity_of-velocity.ensures.left
